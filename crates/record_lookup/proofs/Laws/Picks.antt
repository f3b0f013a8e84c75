-- The records among the items of an entry, item after item by their places in the table. From answer_table's laws of items and of places.
use Rattle.std.proofs.Common.{Some, None}
use Prim.Native.Nat.{ℕ, ◌+◌, ◌-◌, ◌*◌, ◌^◌, ◌≤◌, ◌<◌}
use mathlib.Core.Path.{◌≡◌, refl, sym, ap, ◌∙◌}
use mathlib.Core.List.{List, [], ◌∷◌, ◌++◌, append-nil, append_assoc}
use mathlib.Core.Bool.{Bool, true, false}
use native.Mathlib.Omega.{arith}
use mir.Syntax.{w64}
use mir.Val.{Fits}
use lib.ListN.{length, drop, length-take, length-drop}
use Rattle.text.specs.Bytes.{part}
use Rattle.text.specs.declared.spans.Span.{Span}
use Rattle.answer_table.specs.declared.items.Places.{Places}
use Rattle.answer_table.specs.Walking.{GivesPlace}
use Rattle.answer_table.specs.Reader.{first_item, items_of, next_item, Starts, first, next as next_start}
use Rattle.answer_table.proofs.Laws.Items.{items_step, items_end, next_further}
use Rattle.answer_table.proofs.Laws.Places.{item_part}
use Rattle.records.specs.Reader.{has_version}
use Rattle.rules.specs.Evaluation.{versioned}
use Rattle.record_lookup.specs.Picking.{one_more, joined, PickedIs}
use Rattle.record_lookup.specs.declared.Picked.{Picked}

-- a further record
one_more_is : (start : ℕ) (w : List ℕ) (ss : List (List ℕ)) (p : Picked) (i : ℕ) → Starts w i → i < length w → PickedIs start w ss p
    → PickedIs start w (ss ++ (first_item (drop i w) ∷ [])) (one_more p (record { from = start + i + 2; to = start + next_item w i }))
unfolding PickedIs one_more
one_more_is start w [] p i b l h = rw h (i, b, l, refl, refl)
one_more_is start w (s ∷ []) p i b l h = rw h.3
one_more_is start w (s ∷ v ∷ ss) p i b l h = rw h

-- at a place of the items: the records before it, and the answer for them
pub record Walk (start : ℕ) (s : List ℕ) (i : ℕ) (p : Picked) : Type 0 where
  pub seen : List (List ℕ)
  pub whole : versioned (items_of s) ≡ seen ++ versioned (items_of (drop i s))
  pub answer : PickedIs start s seen p
  pub starts : Starts s i

-- the same where the walk over the places of these items has come to
pub record Walking (start : ℕ) (s : List ℕ) (a : Places) (p : Picked) : Type 0 where
  pub same : a.items.now ≡ s
  pub walk : Walk start s a.at p

pub pick_start : (start : ℕ) (s : List ℕ) (a : Places) → a.items.now ≡ s → a.at ≡ 0 → Walking start s a Picked.Nothing
unfolding PickedIs
pick_start start s a e h = record { same = e; walk = rw h (record { seen = []; whole = refl; answer = refl; starts = first }) }

module _ (t : List ℕ) (start end : ℕ) (s : List ℕ) (e : s ≡ part t start end) (i : ℕ) (p : Picked) (w : Walk start s i p) where
  items_ended : length s ≤ i → PickedIs start (part t start end) (versioned (items_of (part t start end))) p
  unfolding versioned
  items_ended h =
      let a : versioned (items_of s) ≡ w.seen = rw (items_end s i h, append-nil) at w.whole in
      rw (← e, a) w.answer

  module _ (here : i < length s) where
    inside : start + length s ≤ length t
    inside = let l : length s ≡ length (part t start end) = ap length e in omega (arith, length-take (end - start) (drop start t), length-drop start t)

    -- the item as a part of the table
    item_is : part t (start + i + 2) (start + next_item s i) ≡ first_item (drop i s)
    item_is = rw e (sym (item_part t start end i))

    item_next : (next : ℕ) → next ≡ next_item s i → (r : Picked) → r ≡ joined t p (record { from = start + i + 2; to = start + next }) → Walk start s next r
    unfolding joined versioned
    item_next next k r q = by (has_version (first_item (drop i s))) refl
      where
        rest : versioned (items_of s) ≡ w.seen ++ versioned (first_item (drop i s) ∷ items_of (drop next s))
        rest = rw k (rw (items_step s i here) at w.whole)

        text : part t (start + i + 2) (start + next) ≡ first_item (drop i s)
        text = rw k item_is

        further : Starts s next
        further = rw k (next_start w.starts here)

        by : (b : Bool) → has_version (first_item (drop i s)) ≡ b → Walk start s next r
        by true h = record {
          seen = w.seen ++ (first_item (drop i s) ∷ []);
          whole = rw append_assoc (rw h at rest);
          answer = rw (q, text, h, k) (one_more_is start s w.seen p i w.starts here w.answer);
          starts = further;
        }
        by false h = record {
          seen = w.seen;
          whole = rw h at rest;
          answer = rw (q, text, h) w.answer;
          starts = further;
        }

-- a step of the walk over the places, whose items are those of the entry
module _ (t : List ℕ) (start end : ℕ) (a b : Places) (p : Picked) (v : Walking start (part t start end) a p) where
  abbrev texts : List ℕ
  texts = part t start end

  pub pick_end : GivesPlace a None b → PickedIs start (part t start end) (versioned (items_of (part t start end))) p
  pick_end g = items_ended t start end texts refl a.at p v.walk (rw v.same at g.0)

  module _ (q : Span) (g : GivesPlace a (Some q) b) where
    here : a.at < length texts
    here = rw v.same at g.0

    to_is : q.to ≡ next_item texts a.at
    to_is = rw v.same at g.2

    next_is : b.at ≡ next_item texts a.at
    next_is = rw v.same at g.4

    -- a slice's length, as code knows it
    module _ (l : length t * 1 < 2 ^ 63) where
      pub text_fits : Fits w64 (start + q.from)
      text_fits = record { fits = omega (arith, inside t start end texts refl a.at p v.walk here, here, g.1) }

      pub end_fits : Fits w64 (start + q.to)
      end_fits = record { fits = omega (arith, inside t start end texts refl a.at p v.walk here, next_further texts a.at here, to_is) }

    pub pick_next : (r : Picked) → r ≡ joined t p (record { from = start + q.from; to = start + q.to }) → Walking start texts b r
    pick_next r h =
        let f : start + q.from ≡ start + a.at + 2 = omega (arith, g.1) in
        let n : q.to ≡ b.at = to_is ∙ sym next_is in
        record {
          same = ap (λ x. x.now) g.3 ∙ v.same;
          walk = item_next t start end texts refl a.at p v.walk here b.at next_is r (rw (f, n) at h);
        }

-- a further text
module _ (t : List ℕ) (p : Picked) (place : Span) (u : List ℕ) (e : u ≡ part t place.from place.to) (b : Bool) (m : b ≡ has_version u) where
  has : has_version (part t place.from place.to) ≡ b
  has = sym (m ∙ ap has_version e)

  pub join_none : b ≡ false → p ≡ joined t p place
  unfolding joined
  join_none h = rw (has, h)

  pub join_one : b ≡ true → (r : Picked) → r ≡ one_more p place → r ≡ joined t p place
  unfolding joined
  join_one h r q = rw (has, h) q

-- one more record
module _ (p : Picked) (place : Span) where
  pub more_first : p ≡ Picked.Nothing → Picked.One place ≡ one_more p place
  unfolding one_more
  more_first h = rw h

  pub more_several : p ≡ Picked.Several → Picked.Several ≡ one_more p place
  unfolding one_more
  more_several h = rw h

  pub more_second : (earlier : Span) → p ≡ Picked.One earlier → Picked.Several ≡ one_more p place
  unfolding one_more
  more_second earlier h = rw h
