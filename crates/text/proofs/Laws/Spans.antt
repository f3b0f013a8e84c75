-- A word that stands in a list from a place up to another: joined, cut, and as a part that code hands on. All of `take`, `drop` and `++` is
-- argued here, once.
use Prim.Native.Nat.{ℕ, suc, ◌+◌, ◌-◌, ◌≤◌, ◌<◌, min}
use mathlib.Core.Path.{◌≡◌, refl, sym, ap, subst, ◌∙◌}
use mathlib.Core.Logic.{⊎_elim}
use mathlib.Core.List.{List, [], ◌∷◌, ◌++◌, append_assoc, append-nil}
use native.Mathlib.Omega.{arith}
use native.Mathlib.Nat.{add-zero}
use native.Mathlib.Numerals.{add-one}
use lib.ListN.{length, take, drop, length-append, take-append-drop, length-take, length-drop, drop_of_length-le}
use lib.Seq.{drop-drop, drop-cons, drop-append_seam, drop-append-add, length-take-le, drop-length, take_all, get_or-drop, take_at, take-nil}
use Rattle.text.specs.Bytes.{at, part}
use Rattle.text.proofs.Laws.Orders.{le_or_lt}
use Rattle.text.proofs.Laws.Classes.{nonzero_inside}

pub record Span (s : List ℕ) (i j : ℕ) (w : List ℕ) : Type 0 where
  pub split : drop i s ≡ w ++ drop j s
  pub size : j ≡ i + length w

pub span_join : {s : List ℕ} {i j k : ℕ} {u w : List ℕ} → Span s i j u → Span s j k w → Span s i k (u ++ w)
span_join {s} {i} {j} {k} {u} {w} p q = record {
  split = p.split ∙ ap (λ (t : List ℕ). u ++ t) q.split ∙ sym (append_assoc u w (drop k s));
  size = omega (arith, length-append u w, p.size, q.size);
}

-- the word's own end is where it is cut
pub span_cut : {s : List ℕ} {i k : ℕ} (u w : List ℕ) → Span s i k (u ++ w) → Span s i (i + length u) u × Span s (i + length u) k w
span_cut {s} {i} {k} u w p =
    let e : drop i s ≡ u ++ (w ++ drop k s) = p.split ∙ append_assoc u w (drop k s) in
    let d : drop (i + length u) s ≡ w ++ drop k s = sym (drop-drop (length u) i s) ∙ ap (drop (length u)) e ∙ drop-append_seam u (w ++ drop k s) in (
      record { split = e ∙ ap (λ (t : List ℕ). u ++ t) (sym d); size = refl },
      record { split = d; size = omega (arith, length-append u w, p.size) },
    )

pub span_byte : (s : List ℕ) (i b : ℕ) → at s i ≡ suc b → Span s i (i + 1) (suc b ∷ [])
span_byte s i b h = record {
  split = drop-cons s i 0 (nonzero_inside s i (omega arith)) ∙ simp (h, add-one);
  size = refl;
}

pub span_here : (s : List ℕ) (i : ℕ) → i < length s → Span s i (i + 1) (at s i ∷ [])
span_here s i h = record { split = drop-cons s i 0 h ∙ simp add-one; size = refl }

pub span_none : (s : List ℕ) (i : ℕ) → Span s i i []
span_none s i = record { split = refl; size = omega arith }

pub span_between : (u w rest : List ℕ) → Span (u ++ (w ++ rest)) (length u) (length u + length w) w
span_between u w rest = record {
  split = drop-append_seam u (w ++ rest) ∙ ap (λ (t : List ℕ). w ++ t) (sym (drop-append-add u (w ++ rest) (length w) ∙ drop-append_seam w rest));
  size = refl;
}

-- of a word that begins with a byte
pub span_at : {s : List ℕ} {i j b : ℕ} {w : List ℕ} → Span s i j (b ∷ w) → at s i ≡ b
span_at {s} {i} {j} {b} {w} p = sym (simp add-zero at (get_or-drop i s 0 0)) ∙ ap (λ (t : List ℕ). at t 0) p.split

pub span_take : (s : List ℕ) (i n : ℕ) → n ≤ length (drop i s) → Span s i (i + n) (take n (drop i s))
span_take s i n h = record {
  split = sym (take-append-drop n (drop i s)) ∙ ap (λ (t : List ℕ). take n (drop i s) ++ t) (drop-drop n i s);
  size = simp (length-take-le n (drop i s) h);
}

-- the word as the part that code hands on
pub span_word : {s : List ℕ} {i j : ℕ} {u : List ℕ} → Span s i j u → take (j - i) (drop i s) ≡ u
span_word {s} {i} {j} {u} p = simp p.split (take_at u (drop j s) (j - i) (omega (arith, p.size)))

pub span_part : (s : List ℕ) (i j : ℕ) → i ≤ j → j ≤ length s → Span s i j (part s i j)
span_part s i j h k =
    let e : i + (j - i) ≡ j = omega arith in
    subst (λ (n : ℕ). Span s i n (part s i j)) e (span_take s i (j - i) (omega (arith, length-drop i s)))

pub span_rest : (s : List ℕ) (i : ℕ) → i ≤ length s → Span s i (length s) (drop i s)
span_rest s i k = record { split = simp (drop-length, append-nil); size = omega (arith, length-drop i s) }

-- the whole list
pub span_all : (s : List ℕ) → Span s 0 (length s) s
span_all s = record { split = simp (drop-length, append-nil); size = omega arith }

pub span_whole : {s w : List ℕ} → Span s 0 (length s) w → s ≡ w
span_whole {s} {w} p = p.split ∙ simp (drop-length, append-nil)

pub span_to_end : {s w : List ℕ} (j : ℕ) → j ≡ length s → Span s 0 j w → s ≡ w
span_to_end {s} {w} j e p = span_whole (subst (λ (n : ℕ). Span s 0 n w) e p)

-- the part up to a place
pub front_part : (s : List ℕ) (i : ℕ) → part s 0 i ≡ take i s
front_part s i = let e : i - 0 ≡ i = omega arith in ap (λ (n : ℕ). take n s) e

-- a part is no longer than the list
pub part_length : (s : List ℕ) (i j : ℕ) → length (part s i j) ≤ length s
part_length s i j = simp (length-take, length-drop) (omega arith)

-- the part from a place on, as code hands it: `&s[i..]`
pub rest_part : (s : List ℕ) (i : ℕ) → take (length s - i) (drop i s) ≡ drop i s
rest_part s i = take_all (length s - i) (drop i s) (omega (arith, length-drop i s))

pub drop_past : (s : List ℕ) (i : ℕ) → length s < i → drop i s ≡ []
drop_past s i h = drop_of_length-le s {i = i} (omega arith)

-- one byte more at the front of a rest, as a loop from the right takes it
pub drop_before : (s : List ℕ) (i : ℕ) → 0 < i → i ≤ length s → drop (i - 1) s ≡ at s (i - 1) ∷ drop i s
drop_before s i h k = let n : suc (i - 1) ≡ i = omega arith in drop-cons s (i - 1) 0 (omega arith) ∙ ap (λ (j : ℕ). at s (i - 1) ∷ drop j s) n

pub drop_min : (k : ℕ) (s : List ℕ) → drop (min k (length s)) s ≡ drop k s
drop_min k s = ⊎_elim
    (λ (h : k ≤ length s). let e : min k (length s) ≡ k = omega arith in rw e)
    (λ (h : length s < k). drop_of_length-le s {i = min k (length s)} (omega arith) ∙ sym (drop_past s k h))
    (le_or_lt k (length s))

-- a byte that a test has found lies inside
pub byte_inside : (r : ℕ) (s : List ℕ) (i b : ℕ) → r ≡ at s i → r ≡ suc b → i < length s
byte_inside r s i b p q = nonzero_inside s i (omega arith)

-- the ways out of `part`
module _ (s : List ℕ) (from : ℕ) where
  pub part_past : length s < from → (to : ℕ) → [] ≡ part s from to
  part_past h to = simp (drop_past s from h, take-nil)

  pub part_less : (to : ℕ) → to < from → [] ≡ part s from to
  part_less to h = let e : to - from ≡ 0 = omega arith in simp e

  pub part_short : (to : ℕ) → length s < to → take (length s - from) (drop from s) ≡ part s from to
  part_short to h = rest_part s from ∙ sym (take_all (to - from) (drop from s) (omega (arith, length-drop from s)))
