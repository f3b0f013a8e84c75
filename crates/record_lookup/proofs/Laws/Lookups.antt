-- Record lookup by the entry that was found: what a table settles of it, and where the domain's name stands. From client_match's laws of what a table
-- answers, answer_table's laws of places, and Inversions.
use Rattle.std.proofs.Common.{Option, Some, None}
use Prim.Native.Nat.{ℕ, ◌+◌, ◌-◌, ◌≤◌, ◌<◌}
use mathlib.Core.Path.{◌≡◌, refl, sym, ◌∙◌}
use mathlib.Core.List.{List, [], ◌∷◌}
use native.Mathlib.Omega.{arith}
use lib.ListN.{length, drop}
use Rattle.text.specs.Bytes.{part}
use Rattle.text.specs.declared.spans.Span.{Span}
use Rattle.answer_table.specs.declared.Layout.{Layout}
use Rattle.answer_table.specs.declared.Found.{Found}
use Rattle.answer_table.specs.Reader.{first_item, items_of, next_item, Starts, find_at}
use Rattle.answer_table.proofs.Laws.Places.{found_name, item_part}
use Rattle.answer_table.proofs.Laws.Standing.{found_item}
use Rattle.client_match.proofs.Laws.Asked.{run_lacks, run_failed, run_items}
use Rattle.rules.specs.declared.Counts.{Counts}
use Rattle.rules.specs.declared.Selected.{Selected}
use Rattle.rules.specs.Tree.{sooner, run}
use Rattle.rules.specs.Tables.{table_in}
use Rattle.rules.specs.Evaluation.{Selection, ends, one, versioned, selection, text_reply, record_lookup}
use Rattle.rules.specs.Outcomes.{Settles, SelectionIs, SelectedIs, SaysSelection}
use Rattle.rules.proofs.Laws.Runs.{give_settles}
use Rattle.rules.proofs.Laws.Inversions.{lookup_gives, lookup_lacks}
use Rattle.record_lookup.specs.Picking.{PickedIs}
use Rattle.record_lookup.specs.declared.Picked.{Picked}

-- what is selected of texts, by the records that were picked
module _ (start : ℕ) (w : List ℕ) where
  selected_none : (ss : List (List ℕ)) (r : Picked) → PickedIs start w ss r → r ≡ Picked.Nothing → selection ss ≡ ends 0
  unfolding PickedIs selection
  selected_none [] r h e = refl
  selected_none (s ∷ []) r h e = let p = h.3 in let z : ◌≡◌ {A = ℕ} 0 1 = cc in absurd (omega arith)
  selected_none (s ∷ u ∷ ss) r h e = let z : ◌≡◌ {A = ℕ} 0 1 = cc in absurd (omega arith)

  selected_several : (ss : List (List ℕ)) (r : Picked) → PickedIs start w ss r → r ≡ Picked.Several → selection ss ≡ ends 6
  unfolding PickedIs selection
  selected_several [] r h e = let z : ◌≡◌ {A = ℕ} 0 1 = cc in absurd (omega arith)
  selected_several (s ∷ []) r h e = let p = h.3 in let z : ◌≡◌ {A = ℕ} 0 1 = cc in absurd (omega arith)
  selected_several (s ∷ u ∷ ss) r h e = refl

  -- the only one, by its place
  record Only (ss : List (List ℕ)) (place : Span) : Type 0 where
    pub at : ℕ
    pub starts : Starts w at
    pub inside : at < length w
    pub from_is : place.from ≡ start + at + 2
    pub to_is : place.to ≡ start + next_item w at
    pub selected : selection ss ≡ one (first_item (drop at w))

  selected_one : (ss : List (List ℕ)) (r : Picked) → PickedIs start w ss r → (place : Span) → r ≡ Picked.One place → Only ss place
  unfolding PickedIs selection
  selected_one [] r h place e = let z : ◌≡◌ {A = ℕ} 0 1 = cc in absurd (omega arith)
  selected_one (s ∷ []) r h place e =
      let p = h.3 in
      record { at = h.0; starts = h.1; inside = h.2; from_is = cc; to_is = cc; selected = rw h.4 }
  selected_one (s ∷ u ∷ ss) r h place e = let z : ◌≡◌ {A = ℕ} 0 1 = cc in absurd (omega arith)

-- where the domain's name stands, if an entry was found
module _ (t d : List ℕ) (f : Option Found) (p : f ≡ find_at t 16 d) (x : Found) (e : f ≡ Some x) where
  named : (length d ≤ x.start) × (part t (x.start - length d) x.start ≡ d)
  named = found_name Layout.New t 16 d x (sym p ∙ e)

  pub name_before : length d ≤ x.start
  name_before = named.0

-- `select_record`, by what was found for the TXT question
module _ (t d : List ℕ) (l : Option ℕ) (f : Option Found) (p : f ≡ find_at t 16 d) where
  pub select_missing : f ≡ None → SaysSelection d t l (record { selected = Selected.Missing; life = l })
  unfolding record_lookup
  select_missing e c = lookup_lacks c d t _ l (run_lacks t 16 d f p l c text_reply e)

  module _ (x : Found) (e : f ≡ Some x) where
    pub select_failed : (j : Option ℕ) → j ≡ sooner l x.lifetime → x.status ≡ 2 → SaysSelection d t l (record { selected = Selected.Ends 5; life = j })
    unfolding SelectionIs record_lookup text_reply
    select_failed j k h c =
        lookup_gives c d t _ (ends 5) j (Selected.Ends 5) (rw (run_failed t 16 d f p l x e j k c text_reply h) (give_settles (table_in t) j _)) refl

    module _ (j : Option ℕ) (g : j ≡ sooner l x.lifetime) (h : x.status ≡ 2 → ⊥) (r : Picked) (q : PickedIs x.start (part t x.start x.end) (versioned (items_of (part t x.start x.end))) r) where
      picked : (c : Counts) (s : Selection) → selection (versioned (items_of (part t x.start x.end))) ≡ s → Settles (run (table_in t) l (record_lookup d c)) s j
      unfolding record_lookup text_reply
      picked c s k = rw (← k, run_items t 16 d f p l x e j g c text_reply h) (give_settles (table_in t) j _)

      pub select_none : r ≡ Picked.Nothing → SaysSelection d t l (record { selected = Selected.Ends 0; life = j })
      unfolding SelectionIs
      select_none k c = lookup_gives c d t _ (ends 0) j (Selected.Ends 0) (picked c (ends 0) (selected_none x.start _ _ r q k)) refl

      pub select_several : r ≡ Picked.Several → SaysSelection d t l (record { selected = Selected.Ends 6; life = j })
      unfolding SelectionIs
      select_several k c = lookup_gives c d t _ (ends 6) j (Selected.Ends 6) (picked c (ends 6) (selected_several x.start _ _ r q k)) refl

      pub select_one : (place : Span) → r ≡ Picked.One place
          → SaysSelection d t l (record { selected = Selected.One (record { from = x.start - length d; to = x.start }) place; life = j })
      unfolding SelectionIs
      select_one place k c = by (selected_one x.start (part t x.start x.end) _ r q place k)
        where
          by : Only x.start (part t x.start x.end) (versioned (items_of (part t x.start x.end))) place
              → SelectedIs c d t (run (table_in t) l (record_lookup d c)) (record { selected = Selected.One (record { from = x.start - length d; to = x.start }) place; life = j })
          by o =
              let s = first_item (drop o.at (part t x.start x.end)) in
              let i : s ≡ part t place.from place.to = item_part t x.start x.end o.at ∙ rw (o.from_is, o.to_is) in
              lookup_gives c d t _ (one s) j _ (picked c (one s) o.selected) (
                record { from = x.start - length d; to = x.start },
                place,
                refl,
                record {
                  named = (named t d f p x e).1;
                  bytes_are = sym i;
                  stands = λ es z. rw o.from_is (found_item z.entries 16 d x (sym p ∙ e) o.at o.starts o.inside);
                },
              )
