-- The tests of a branch as equations of the Booleans that definitions pick by: one rule for each way in which a definition of specs/ takes
-- apart a test that the code has made. Assumes nothing.
use Prim.Native.Nat.{ℕ, ◌≤◌, ◌<◌}
use mathlib.Core.Path.{◌≡◌, refl, sym, ap, ◌∙◌}
use mathlib.Core.Bool.{Bool, true, false, cond, not, ◌&&◌, ◌||◌, and_assoc, and_comm}
use native.Mathlib.Omega.{arith}
use lib.Dec.{leb, ltb, eqb}
use borrow.Author.Tests.{lt-ltb, le-ltb, le-leb, lt-leb, eq-eqb, ne_eqb, not-true, not-false}

-- a definition that picks by a test: z is what it picks, if z is what the arm that was taken says
module _ {A : Type 0} where
  pub by_true : (r t : Bool) (x y z : A) → r ≡ t → r ≡ true → z ≡ x → z ≡ cond t x y
  by_true r t x y z p q h = h ∙ ap (λ (b : Bool). cond b x y) (sym q ∙ p)

  pub by_false : (r t : Bool) (x y z : A) → r ≡ t → r ≡ false → z ≡ y → z ≡ cond t x y
  by_false r t x y z p q h = h ∙ ap (λ (b : Bool). cond b x y) (sym q ∙ p)

  pub by_not_true : (r t : Bool) (x y z : A) → r ≡ t → not r ≡ true → z ≡ y → z ≡ cond t x y
  by_not_true r t x y z p q h = by_false r t x y z p (not-true r q) h

  pub by_not_false : (r t : Bool) (x y z : A) → r ≡ t → not r ≡ false → z ≡ x → z ≡ cond t x y
  by_not_false r t x y z p q h = by_true r t x y z p (not-false r q) h

  pub by_eq : (m n : ℕ) (x y z : A) → m ≡ n → z ≡ x → z ≡ cond (eqb m n) x y
  by_eq m n x y z p h = h ∙ ap (λ (b : Bool). cond b x y) (sym (eq-eqb m n p))

  pub by_ne : (m n : ℕ) (x y z : A) → (m ≡ n → ⊥) → z ≡ y → z ≡ cond (eqb m n) x y
  by_ne m n x y z p h = h ∙ ap (λ (b : Bool). cond b x y) (sym (ne_eqb m n p))

  pub by_le : (m n : ℕ) (x y z : A) → m ≤ n → z ≡ x → z ≡ cond (leb m n) x y
  by_le m n x y z p h = h ∙ ap (λ (b : Bool). cond b x y) (sym (le-leb m n p))

  pub by_gt : (m n : ℕ) (x y z : A) → n < m → z ≡ y → z ≡ cond (leb m n) x y
  by_gt m n x y z p h = h ∙ ap (λ (b : Bool). cond b x y) (sym (lt-leb m n p))

  pub by_lt : (m n : ℕ) (x y z : A) → m < n → z ≡ x → z ≡ cond (ltb m n) x y
  by_lt m n x y z p h = h ∙ ap (λ (b : Bool). cond b x y) (sym (lt-ltb m n p))

  pub by_ge : (m n : ℕ) (x y z : A) → n ≤ m → z ≡ y → z ≡ cond (ltb m n) x y
  by_ge m n x y z p h = h ∙ ap (λ (b : Bool). cond b x y) (sym (le-ltb m n p))

  pub by_eq_of : (r m n : ℕ) (x y z : A) → r ≡ m → r ≡ n → z ≡ x → z ≡ cond (eqb m n) x y
  by_eq_of r m n x y z p q h = by_eq m n x y z (sym p ∙ q) h

  pub by_ne_of : (r m n : ℕ) (x y z : A) → r ≡ m → (r ≡ n → ⊥) → z ≡ y → z ≡ cond (eqb m n) x y
  by_ne_of r m n x y z p q h = by_ne m n x y z (λ e. q (p ∙ e)) h

pub ruleset ways = (by_eq, by_ne, by_eq_of, by_ne_of, by_lt, by_ge, by_le, by_gt, by_true, by_false, by_not_true, by_not_false)

-- "or": the code answers true at the first test that holds, and otherwise what is left
pub or_true : (r t u : Bool) → r ≡ t → r ≡ true → true ≡ (t || u)
or_true r t u p q = ap (λ (b : Bool). b || u) (sym q ∙ p)

pub or_false : (r t u z : Bool) → r ≡ t → r ≡ false → z ≡ u → z ≡ (t || u)
or_false r t u z p q h = h ∙ ap (λ (b : Bool). b || u) (sym q ∙ p)

pub or_eq : (m n : ℕ) (u : Bool) → m ≡ n → true ≡ (eqb m n || u)
or_eq m n u p = ap (λ (b : Bool). b || u) (sym (eq-eqb m n p))

pub or_ne : (m n : ℕ) (u z : Bool) → (m ≡ n → ⊥) → z ≡ u → z ≡ (eqb m n || u)
or_ne m n u z p h = h ∙ ap (λ (b : Bool). b || u) (sym (ne_eqb m n p))

-- "and": the code answers false at the first test that fails, and otherwise what is left
pub and_true : (r t u z : Bool) → r ≡ t → r ≡ true → z ≡ u → z ≡ (t && u)
and_true r t u z p q h = h ∙ ap (λ (b : Bool). b && u) (sym q ∙ p)

pub and_false : (r t u : Bool) → r ≡ t → r ≡ false → false ≡ (t && u)
and_false r t u p q = ap (λ (b : Bool). b && u) (sym q ∙ p)

pub and_le : (m n : ℕ) (u z : Bool) → m ≤ n → z ≡ u → z ≡ (leb m n && u)
and_le m n u z p h = h ∙ ap (λ (b : Bool). b && u) (sym (le-leb m n p))

pub and_gt : (m n : ℕ) (u : Bool) → n < m → false ≡ (leb m n && u)
and_gt m n u p = ap (λ (b : Bool). b && u) (sym (lt-leb m n p))

pub and_gt_here : (m n : ℕ) (u : Bool) → n < m → leb m n ≡ (leb m n && u)
and_gt_here m n u p = lt-leb m n p ∙ and_gt m n u p

pub ruleset tests = (or_true, or_false, or_eq, or_ne, and_true, and_false, and_le, and_gt, and_gt_here)

-- a property of what a test picks, from the property of both ways
pub cond-elim {κ} : {A : Type 0} (P : A → Type κ) (t : Bool) {x y : A} → (t ≡ true → P x) → (t ≡ false → P y) → P (cond t x y)
cond-elim P true f g = f refl
cond-elim P false f g = g refl

-- the parts of "and", taken apart and put together
pub and_left : (t u : Bool) → (t && u) ≡ true → t ≡ true
and_left true u h = refl
and_left false u h = h

pub and_right : (t u : Bool) → (t && u) ≡ true → u ≡ true
and_right true u h = h
and_right false u h = let z : ◌≡◌ {A = ℕ} 0 1 = cc in cc

pub and_both : (t u : Bool) → t ≡ true → u ≡ true → (t && u) ≡ true
and_both t u p q = simp (p, q)

-- and put in another order
pub and_last : (t u v : Bool) → ((t && u) && v) ≡ ((t && v) && u)
and_last t u v = and_assoc t u v ∙ ap (λ (b : Bool). t && b) (and_comm u v) ∙ sym (and_assoc t v u)

pub and_between : (t u v w : Bool) → ((t && u) && (v && w)) ≡ ((t && v) && (u && w))
and_between t u v w = sym (and_assoc (t && u) v w) ∙ ap (λ (b : Bool). b && w) (and_last t u v) ∙ and_assoc (t && v) u w

-- the parts of "or", where it holds
pub or_elim {κ} : {P : Type κ} (t u : Bool) → (t || u) ≡ true → (t ≡ true → P) → (u ≡ true → P) → P
or_elim true u h f g = f refl
or_elim false u h f g = g h

pub or_left : (t u : Bool) → t ≡ true → (t || u) ≡ true
or_left t u h = simp h

pub or_right : (t u : Bool) → u ≡ true → (t || u) ≡ true
or_right true u h = refl
or_right false u h = h

-- and where it fails
pub or_false_left : (t u : Bool) → (t || u) ≡ false → t ≡ false
or_false_left true u h = h
or_false_left false u h = refl

pub or_false_right : (t u : Bool) → (t || u) ≡ false → u ≡ false
or_false_right true u h = let z : ◌≡◌ {A = ℕ} 0 1 = cc in cc
or_false_right false u h = h

pub or_false_both : (t u : Bool) → t ≡ false → u ≡ false → (t || u) ≡ false
or_false_both t u p q = simp (p, q)

-- a test that holds doesn't fail
pub true_false : (t : Bool) → t ≡ true → t ≡ false → ⊥
true_false t h k = let z : ◌≡◌ {A = ℕ} 0 1 = cc in omega arith

-- a test that isn't false is true, and one that isn't true is false
pub test_holds : (t : Bool) → (t ≡ false → ⊥) → t ≡ true
test_holds true h = refl
test_holds false h = absurd (h refl)

pub test_fails : (t : Bool) → (t ≡ true → ⊥) → t ≡ false
test_fails true h = absurd (h refl)
test_fails false h = refl

pub fails_test : (t : Bool) → (t ≡ true → ⊥) → false ≡ t
fails_test t h = sym (test_fails t h)

-- two tests that hold together are the same
pub same_tests : (t u : Bool) → (t ≡ true → u ≡ true) → (u ≡ true → t ≡ true) → t ≡ u
same_tests true u f g = sym (f refl)
same_tests false true f g = g refl
same_tests false false f g = refl
