-- Where what was found stands in the table: an entry's name just before its items, and each item's bytes by its place. From the definitions of
-- the reader and header_facts (Encoding).
use Rattle.std.proofs.Common.{None, Option, Some}
use Prim.Native.Nat.{ℕ, zero, suc, ◌+◌, ◌-◌, ◌≤◌, ◌<◌, min}
use mathlib.Core.Path.{◌≡◌, refl, sym, ap, subst, ◌∙◌}
use mathlib.Core.Logic.{⊎_elim}
use mathlib.Core.List.{List, [], ◌∷◌}
use mathlib.Core.Bool.{Bool, true, false, cond, ◌&&◌}
use native.Mathlib.Omega.{arith}
use lib.Dec.{eqb}
use lib.ListN.{length, take, drop, length-take, length-drop}
use lib.Seq.{take_all, take-nil, take-take, drop-drop, length-take-le}
use Rattle.text.specs.Bytes.{part}
use Rattle.text.specs.Lists.{same}
use Rattle.text.proofs.Laws.Orders.{le_or_lt}
use Rattle.text.proofs.Laws.Tests.{and_right}
use Rattle.text.proofs.Laws.Words.{same_true}
use Rattle.answer_table.specs.Layout.{header_size}
use Rattle.answer_table.specs.Reader.{number, first_item, next_item, header_of, name_of, found_of, find_after, find_from, find_in}
use Rattle.answer_table.specs.declared.Layout.{Layout}
use Rattle.answer_table.specs.declared.entries.Header.{Header}
use Rattle.answer_table.specs.declared.Found.{Found}
use Rattle.answer_table.proofs.Laws.Encoding.{header_facts}

-- a name that ends where the items start
abbrev Named : List ℕ → List ℕ → Option Found → Type 0
Named t name (Some e) = (length name ≤ e.start) × (part t (e.start - length name) e.start ≡ name)
Named t name None = Unit {0}

-- the name of a header's entry, as a part of the table
name_part : (lay : Layout) (t : List ℕ) (i : ℕ) (h : Header) (name : List ℕ) → header_size lay + h.name ≤ length (drop i t)
    → name_of lay (drop i t) h ≡ name
    → (length name ≤ i + (header_size lay + h.name)) × (part t (i + (header_size lay + h.name) - length name) (i + (header_size lay + h.name)) ≡ name)
unfolding name_of
name_part lay t i h name g e =
    let n = h.name in
    let m = header_size lay in
    let l : length name ≡ n = sym (ap length e) ∙ length-take-le n (drop m (drop i t)) (omega (arith, length-drop m (drop i t))) in
    let a : i + (m + n) - length name ≡ i + m = omega arith in
    let b : i + (m + n) - (i + m) ≡ n = omega arith in
    (omega arith, rw (a, b, ← (drop-drop m i t)) e)

module _ (lay : Layout) (t : List ℕ) (kind : ℕ) (name : List ℕ) where
  named_from : (f i : ℕ) → Named t name (find_from lay f t kind name i)
  unfolding find_from find_after found_of
  named_from zero i = tt
  named_from (suc f) i = go (λ j. named_from f j) (header_of lay (drop i t)) refl
    where
      by : (h : Header) → header_size lay + h.name ≤ length (drop i t) → Named t name (find_from lay f t kind name (i + h.size)) → (k b : Bool)
          → (k && same (name_of lay (drop i t) h) name) ≡ b → Named t name (cond b (Some (found_of lay t i h)) (find_from lay f t kind name (i + h.size)))
      by h l r k true e = name_part lay t i h name l (same_true _ _ (and_right k _ e))
      by h l r k false e = r

      go : ((j : ℕ) → Named t name (find_from lay f t kind name j)) → (x : Option Header) → header_of lay (drop i t) ≡ x
          → Named t name (find_after lay t kind name i x (find_from lay f t kind name))
      go ih None e = tt
      go ih (Some h) e =
          let l = header_facts lay (drop i t) h e in
          by h (omega (arith, l.0, l.1)) (ih (i + h.size)) (eqb h.kind kind) (eqb h.kind kind && same (name_of lay (drop i t) h) name) refl

-- the name that was looked up stands just before the items of the entry that was found
pub found_name : (lay : Layout) (t : List ℕ) (kind : ℕ) (name : List ℕ) (x : Found) → find_in lay t kind name ≡ Some x
    → (length name ≤ x.start) × (part t (x.start - length name) x.start ≡ name)
unfolding find_in
found_name lay t kind name x e = subst (Named t name) e (named_from lay t kind name (length t) 0)

-- the rest of a front
drop_take : (n m : ℕ) (s : List ℕ) → drop n (take m s) ≡ take (m - n) (drop n s)
drop_take zero m s = let e : m - 0 ≡ m = omega arith in rw e
drop_take (suc n) zero s = let e : 0 - suc n ≡ 0 = omega arith in rw e
drop_take (suc n) (suc m) [] = sym (take-nil (suc m - suc n))
drop_take (suc n) (suc m) (x ∷ xs) = let e : suc m - suc n ≡ m - n = omega arith in rw e (drop_take n m xs)

-- no more than there is
take_min : (n : ℕ) (s : List ℕ) → take n s ≡ take (min n (length s)) s
take_min n s = ⊎_elim
    (λ (h : n ≤ length s). let e : min n (length s) ≡ n = omega arith in rw e)
    (λ (h : length s < n). take_all n s (omega arith) ∙ sym (take_all (min n (length s)) s (omega arith)))
    (le_or_lt n (length s))

-- a part of a part, as a part of the whole
pub part_inside : (t : List ℕ) (a b i j : ℕ) → j ≤ length (part t a b) → part (part t a b) i j ≡ part t (a + i) (a + j)
part_inside t a b i j h =
    let e : a + j - (a + i) ≡ j - i = omega arith in
    let k : j - i ≤ b - a - i = omega (arith, length-take (b - a) (drop a t)) in
    rw (e, drop_take i (b - a) (drop a t), drop-drop i a t) (take-take (j - i) (b - a - i) (drop (a + i) t) k)

-- an item's bytes, by its place among the items and theirs in the table
pub item_part : (t : List ℕ) (a b i : ℕ) → first_item (drop i (part t a b)) ≡ part t (a + i + 2) (a + next_item (part t a b) i)
unfolding first_item next_item
item_part t a b i =
    let p = part t a b in
    let n = number (drop i p) in
    let e : min n (length (drop (i + 2) p)) ≡ min (i + (2 + n)) (length p) - (i + 2) = omega (arith, length-drop (i + 2) p) in
    let f : a + (i + 2) ≡ a + i + 2 = omega arith in
    ap (take n) (drop-drop 2 i p) ∙ take_min n (drop (i + 2) p) ∙ ap (λ (k : ℕ). take k (drop (i + 2) p)) e
    ∙ part_inside t a b (i + 2) (min (i + (2 + n)) (length p)) (omega arith) ∙ ap (λ (k : ℕ). part t k (a + min (i + (2 + n)) (length p))) f
