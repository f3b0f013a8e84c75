-- An explanation's questions: a rule for each way out. From the laws of client_match on what a table answers, and Inversions.
use Rattle.std.proofs.Common.{Option, Some, None, Ok, Err, Bor}
use Rattle.std.specs.Option.{is_some, MatchOption}
use Prim.Native.Nat.{ℕ, ◌≤◌}
use mathlib.Core.Path.{◌≡◌, refl, sym, ap, ◌∙◌}
use mathlib.Core.List.{List, [], ◌∷◌}
use mathlib.Core.Bool.{Bool, true, false}
use native.Mathlib.Omega.{arith}
use lib.ListN.{length, take, length-take}
use Rattle.text.specs.Bytes.{part}
use Rattle.domain.specs.Normal.{name, malformed}
use Rattle.answer_table.specs.declared.Found.{Found}
use Rattle.answer_table.specs.Reader.{items_of}
use Rattle.records.specs.Readings.{present}
use Rattle.rules.specs.declared.Counts.{Counts}
use Rattle.rules.specs.declared.Progress.{Progress}
use Rattle.rules.specs.declared.Wanted.{Wanted}
use Rattle.rules.specs.Tree.{give, run}
use Rattle.rules.specs.Tables.{table_in}
use Rattle.rules.specs.Mechanisms.{Mail, target}
use Rattle.rules.specs.Evaluation.{explained, explain_reply, explain_name, explanation}
use Rattle.rules.specs.Outcomes.{LooksUp, Targets, Explained, Shows}
use Rattle.rules.proofs.Laws.Runs.{bind_is}
use Rattle.rules.proofs.Laws.Inversions.{gives_give, gives_bind, wants_bind, target_name, target_malformed, target_wants, text_wanted}
use Rattle.client_match.proofs.Laws.Asked.{found_none, found_failed, found_items}
use Rattle.explanation.proofs.Laws.Showing.{text_empty}

-- whether there is a second text
module _ (ss rs : List (List ℕ)) where
  second : (o : Option (Bor (List ℕ))) → MatchOption o ((ss ≡ []) × (rs ≡ [])) (λ x. ss ≡ x.now ∷ rs) → (is_some o ≡ true → ss ≡ [] → ⊥) × (is_some o ≡ false → ss ≡ [])
  second (Some x) h = (λ e z. let k : ◌≡◌ {A = ℕ} 0 1 = cc in absurd (omega arith), λ e. let k : ◌≡◌ {A = ℕ} 0 1 = cc in absurd (omega arith))
  second None h = (λ e z. let k : ◌≡◌ {A = ℕ} 0 1 = cc in absurd (omega arith), λ e. h.0)

  module _ (o : Option (Bor (List ℕ))) (h : MatchOption o ((ss ≡ []) × (rs ≡ [])) (λ x. ss ≡ x.now ∷ rs)) (u : Bool) (e : u ≡ is_some o) where
    pub several_texts : u ≡ true → ss ≡ [] → ⊥
    several_texts k z = (second o h).0 (sym e ∙ k) z

    pub one_text : u ≡ false → ss ≡ []
    one_text k = (second o h).1 (sym e ∙ k)

several_empty : (mail : Mail) (d : List ℕ) (c : Counts) (s : List ℕ) (ss : List (List ℕ)) → (ss ≡ [] → ⊥) → explained mail d c (s ∷ ss) ≡ give []
unfolding explained
several_empty mail d c s [] z = absurd (z refl)
several_empty mail d c s (r ∷ rs) z = refl

-- `explain_name`
module _ (mail : Mail) (t d n : List ℕ) (p q : Progress) (b a : List ℕ) where
  pub name_wanted : (w : Wanted) → LooksUp t 16 n p q (Err w) b a → (u : List ℕ) → Shows t (explain_name mail d p.counts (name n)) p q (Err w) u u b a
  unfolding LooksUp explain_name
  name_wanted w f u = text_wanted p.counts _ w p.life u b a (found_none t 16 n p q b a w f p.counts (explain_reply mail d p.counts))

  module _ (x : Found) (f : LooksUp t 16 n p q (Ok x) b a) where
    pub name_failed : x.status ≡ 2 → (u : List ℕ) → Shows t (explain_name mail d p.counts (name n)) p q (Ok 0) u u b a
    unfolding LooksUp explain_name explain_reply
    name_failed h u =
        text_empty p.counts _ q.life u b a
        (rw (f.name_kept, found_failed t 16 n p q b a x f p.counts (explain_reply mail d p.counts) h) (gives_give (table_in t) q.life [] b))

    -- by its texts
    module _ (h : x.status ≡ 2 → ⊥) (ts : List (List ℕ)) (e : ts ≡ items_of (part t x.start x.end)) where
      name_is : run (table_in t) p.life (explain_name mail d p.counts (name n)) ≡ run (table_in t) q.life (explained mail d p.counts ts)
      unfolding LooksUp explain_name explain_reply
      name_is = found_items t 16 n p q b a x f p.counts (explain_reply mail d p.counts) h ∙ rw (← e)

      pub name_void : ts ≡ [] → (u : List ℕ) → Shows t (explain_name mail d p.counts (name n)) p q (Ok 0) u u b a
      unfolding LooksUp explained
      name_void z u = text_empty p.counts _ q.life u b a (rw (name_is, z, f.name_kept) (gives_give (table_in t) q.life [] b))

      module _ (s : List ℕ) (ss : List (List ℕ)) (i : ts ≡ s ∷ ss) where
        pub name_several : (ss ≡ [] → ⊥) → (u : List ℕ) → Shows t (explain_name mail d p.counts (name n)) p q (Ok 0) u u b a
        unfolding LooksUp
        name_several z u =
            text_empty p.counts _ q.life u b a (rw (name_is, i, several_empty mail d p.counts s ss z, f.name_kept) (gives_give (table_in t) q.life [] b))

        pub name_one : ss ≡ [] → (q' : Progress) (r : Explained) (u u' a' : List ℕ) → Shows t (explained mail d q.counts (s ∷ [])) q q' r u u' a a'
            → Shows t (explain_name mail d p.counts (name n)) p q' r u u' b a'
        unfolding LooksUp
        name_one z q' r u u' a' w = rw (name_is, i, z, ← f.counts_kept, ← f.name_kept) w

-- `explain`: the name at the front of its array
module _ (mail : Mail) (t d spec : List ℕ) (p q : Progress) (to b a : List ℕ) where
  pub explain_wanted : (w : Wanted) → Targets t (target mail d spec p.counts) p q (Err w) to b a → (u : List ℕ)
      → Shows t (explanation mail d (present spec) p.counts) p q (Err w) u u b a
  unfolding explanation
  explain_wanted w y u =
      text_wanted p.counts _ w q.life u b a
      (wants_bind (table_in t) p.life (target mail d spec p.counts) (explain_name mail d p.counts) w.kind w.length p.counts q.life b a (target_wants p.counts _ _ to b a y w refl).0)

  module _ (x : Option ℕ) (y : Targets t (target mail d spec p.counts) p q (Ok x) to b a) where
    pub explain_malformed : x ≡ None → (u : List ℕ) → Shows t (explanation mail d (present spec) p.counts) p q (Ok 0) u u b a
    unfolding explanation explain_name
    explain_malformed e u =
        text_empty p.counts _ q.life u b a
        (gives_bind (table_in t) p.life (target mail d spec p.counts) (explain_name mail d p.counts) malformed [] q.life b a (target_malformed p.counts _ _ to b a y (ap Ok e)).0 refl)

    module _ (n : ℕ) (e : x ≡ Some n) where
      pub name_whole : n ≡ length (take n to)
      name_whole = (target_name p.counts _ _ to b a y n (ap Ok e)).2

      pub name_inside : n ≤ length to
      name_inside = let h = name_whole in omega (arith, length-take n to)

      pub explain_by_name : (q' : Progress) (r : Explained) (u u' a' : List ℕ) → Shows t (explain_name mail d q.counts (name (take n to))) q q' r u u' a a'
          → Shows t (explanation mail d (present spec) p.counts) p q' r u u' b a'
      unfolding explanation
      explain_by_name q' r u u' a' w =
          let g = target_name p.counts _ _ to b a y n (ap Ok e) in
          rw (bind_is (table_in t) p.life (target mail d spec p.counts) (explain_name mail d p.counts) (name (take n to)) q.life g.0.is, ← g.0.kept, ← g.3) w
