-- The first colon of a text and the first "::", as loops find them, in the texts of the productions, and back. From the definitions of Reader6.
use Prim.Native.Nat.{ℕ, suc, ◌+◌, ◌≤◌, ◌<◌}
use mathlib.Core.Path.{◌≡◌, refl, sym, ap, ◌∙◌}
use mathlib.Core.List.{List, [], ◌∷◌, ◌++◌, append-nil}
use mathlib.Core.Bool.{Bool, true, false, cond, not, ◌&&◌}
use native.Mathlib.Omega.{arith}
use native.Mathlib.Numerals.{add-one}
use native.Mathlib.Nat.{add-zero, zero-add, suc-add}
use lib.ListN.{length, take, drop, drop_of_length-le, length-append}
use lib.Seq.{drop-cons, get_or-drop, length-take-le}
use lib.Dec.{eqb}
use borrow.Author.Tests.{ne_eqb, eqb-true}
use Rattle.text.specs.Bytes.{at, is_colon, is_not_colon}
use Rattle.text.specs.Lists.{all, split}
use Rattle.text.specs.Runs.{is_in, run_end}
use Rattle.text.specs.declared.bytes.Class.TheVariants.{NotColon}
use Rattle.text.proofs.Laws.Tests.{and_left, and_right}
use Rattle.text.proofs.Laws.Runs.{run_nil, all_run}
use Rattle.text.proofs.Laws.Splitting.{split_none, split_append}
use Rattle.networks.specs.Reader6.{first_colon, is_double_colon, double_colon}

-- `first_colon`
pub colon_first : (s : List ℕ) (e : ℕ) → e ≡ run_end (is_in NotColon) s 0 → e ≡ first_colon s
unfolding run_end is_in first_colon
colon_first s e h = h ∙ zero-add _

-- `is_double_colon`
module _ (s : List ℕ) (i a : ℕ) (p : a ≡ at s i) where
  pub double_first : a ≡ 58 → (b : ℕ) → b ≡ at s (i + 1) → eqb b 58 ≡ is_double_colon s i
  unfolding is_double_colon
  double_first e b q = simp (← p, e, q)

  pub double_not : (a ≡ 58 → ⊥) → false ≡ is_double_colon s i
  unfolding is_double_colon
  double_not e = simp (← p, ne_eqb a 58 e)

-- the loop of `double_colon`
double_drop : (s : List ℕ) (i : ℕ) → i < length s → double_colon (drop i s) ≡ cond (is_double_colon s i) 0 (suc (double_colon (drop (suc i) s)))
unfolding double_colon is_double_colon
double_drop s i h = rw (drop-cons s i 0 h, get_or-drop (suc i) s 0 0, add-zero, add-one)

module _ (s : List ℕ) (i : ℕ) (inv : i + double_colon (drop i s) ≡ double_colon s) where
  pub double_next : i < length s → (t : Bool) → t ≡ is_double_colon s i → t ≡ false → (i + 1) + double_colon (drop (i + 1) s) ≡ double_colon s
  double_next h t p q = let e = double_drop s i h ∙ ap (λ (b : Bool). cond b 0 (suc (double_colon (drop (suc i) s)))) (sym p ∙ q) in rw add-one (omega arith)

  pub double_here : i < length s → (t : Bool) → t ≡ is_double_colon s i → t ≡ true → i ≡ double_colon s
  double_here h t p q = let e = double_drop s i h ∙ ap (λ (b : Bool). cond b 0 (suc (double_colon (drop (suc i) s)))) (sym p ∙ q) in omega arith

  pub double_out : length s ≤ i → i ≡ double_colon s
  unfolding double_colon
  double_out h = let e : double_colon (drop i s) ≡ 0 = rw (drop_of_length-le s h) in omega arith

-- where one is found, "::" stands there
pub double_splits : (s : List ℕ) → double_colon s < length s → s ≡ take (double_colon s) s ++ (58 ∷ 58 ∷ drop (double_colon s + 2) s)
unfolding double_colon is_double_colon
double_splits [] h = absurd (omega arith)
double_splits (b ∷ s) h = by (is_double_colon (b ∷ s) 0) refl (double_splits s) h
  where
    first : (b : ℕ) (s : List ℕ) → (is_colon b && is_colon (at s 0)) ≡ true → b ∷ s ≡ 58 ∷ 58 ∷ drop 1 s
    first b [] e = absurd (let z = eqb-true 0 58 (and_right (eqb b 58) (eqb 0 58) e) in omega arith)
    first b (c ∷ s) e = let x = eqb-true b 58 (and_left (eqb b 58) (eqb c 58) e) in let y = eqb-true c 58 (and_right (eqb b 58) (eqb c 58) e) in cc

    by : (t : Bool) → is_double_colon (b ∷ s) 0 ≡ t → (double_colon s < length s → s ≡ take (double_colon s) s ++ (58 ∷ 58 ∷ drop (double_colon s + 2) s))
        → cond t 0 (suc (double_colon s)) < suc (length s)
        → b ∷ s ≡ take (cond t 0 (suc (double_colon s))) (b ∷ s) ++ (58 ∷ 58 ∷ drop (cond t 0 (suc (double_colon s)) + 2) (b ∷ s))
    by true e ih h = first b s e
    by false e ih h = rw suc-add (ap (λ (r : List ℕ). b ∷ r) (ih (omega arith)))

pub double_inside : (s : List ℕ) (k : ℕ) → k ≡ double_colon s → k < length s → k + 2 ≤ length s
double_inside s k e h =
    let r = simp length-append at (ap length (double_splits s (omega arith))) in
    let n = length-take-le (double_colon s) s (omega arith) in
    omega arith

-- a text without a colon is one part
pub first_none : (w : List ℕ) → all is_not_colon w ≡ true → split is_colon w ≡ w ∷ []
first_none w h = split_none is_colon w (omega (arith, simp append-nil at (all_run is_not_colon w [] h (run_nil is_not_colon))))

-- and parts a row at the colon after it
pub first_part : (w rest : List ℕ) → all is_not_colon w ≡ true → split is_colon (w ++ (58 ∷ rest)) ≡ w ∷ split is_colon rest
first_part w rest h = split_append is_colon w 58 rest refl ∙ rw (first_none w h)

-- "::" after a text without a colon, and after a colon that stands alone
double_none : (b : ℕ) (s : List ℕ) → is_not_colon b ≡ true → double_colon (b ∷ s) ≡ suc (double_colon s)
unfolding double_colon is_double_colon
double_none b s h = by (eqb b 58) h
  where
    by : (t : Bool) → not t ≡ true → cond (t && is_colon (at s 0)) 0 (suc (double_colon s)) ≡ suc (double_colon s)
    by true h = let z : ◌≡◌ {A = ℕ} 0 1 = cc in omega arith
    by false h = refl

pub double_past : (w t : List ℕ) → all is_not_colon w ≡ true → double_colon (w ++ t) ≡ length w + double_colon t
unfolding all
double_past [] t h = omega arith
double_past (b ∷ w) t h =
    let r = double_past w t (and_right (is_not_colon b) (all is_not_colon w) h) in
    let q = double_none b (w ++ t) (and_left (is_not_colon b) (all is_not_colon w) h) in
    omega arith

pub double_single : (t : List ℕ) → is_colon (at t 0) ≡ false → double_colon (58 ∷ t) ≡ suc (double_colon t)
unfolding double_colon is_double_colon
double_single t h = simp h

pub double_at : (t : List ℕ) → double_colon (58 ∷ 58 ∷ t) ≡ 0
unfolding double_colon is_double_colon
double_at t = refl

pub double_empty : double_colon [] ≡ 0
unfolding double_colon
double_empty = refl
