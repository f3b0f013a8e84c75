-- Equality of lists: the test against the equation, and place by place as a loop compares. From the definition of `same`.
use Prim.Native.Nat.{ℕ}
use mathlib.Core.Path.{◌≡◌, refl, sym, ap, ◌∙◌}
use mathlib.Core.List.{List, [], ◌∷◌, map}
use mathlib.Core.Bool.{Bool, true, false, ◌&&◌, ◌||◌}
use lib.Pointwise.{pointwise}
use Rattle.std.specs.List.{zip, list_all, list_any}
use native.Mathlib.Omega.{arith}
use lib.ListN.{length, get_or, length-map, get_or-map}
use lib.Dec.{eqb}
use borrow.Author.Tests.{eq-eqb, ne_eqb, eqb-true}
use Rattle.text.specs.Bytes.{within, is_upper, lower}
use Rattle.text.specs.Lists.{same, same_word, contains, all}
use Rattle.text.proofs.Laws.Tests.{and_left, and_right, same_tests, test_fails}

-- the test and the equation
pub same_true : (a b : List ℕ) → same a b ≡ true → a ≡ b
unfolding same
same_true [] [] h = refl
same_true [] (y ∷ ys) h = let z : ◌≡◌ {A = ℕ} 0 1 = cc in cc
same_true (x ∷ xs) [] h = let z : ◌≡◌ {A = ℕ} 0 1 = cc in cc
same_true (x ∷ xs) (y ∷ ys) h =
    let p = eqb-true x y (and_left (eqb x y) (same xs ys) h) in
    let q = same_true xs ys (and_right (eqb x y) (same xs ys) h) in
    cc

pub same_refl : (a : List ℕ) → same a a ≡ true
unfolding same
same_refl [] = refl
same_refl (x ∷ xs) = simp (eq-eqb x x refl) (same_refl xs)

pub true_same : (a b : List ℕ) → a ≡ b → same a b ≡ true
true_same a b e = ap (λ (x : List ℕ). same a x) (sym e) ∙ same_refl a

-- where they differ
pub false_same : (a b : List ℕ) → (a ≡ b → ⊥) → same a b ≡ false
false_same a b h = test_fails (same a b) (λ e. h (same_true a b e))

pub same_false : (a b : List ℕ) → same a b ≡ false → a ≡ b → ⊥
same_false a b h e = let t = true_same a b e in let z : ◌≡◌ {A = ℕ} 0 1 = cc in omega arith

pub same_lengths : (a b : List ℕ) → (length a ≡ length b → ⊥) → same a b ≡ false
same_lengths a b h = false_same a b (λ e. h (ap length e))

-- `equal`, as the library compares
pub pointwise_same : (a b : List ℕ) → pointwise eqb a b ≡ same a b
unfolding same
pointwise_same [] [] = refl
pointwise_same [] (y ∷ ys) = refl
pointwise_same (x ∷ xs) [] = refl
pointwise_same (x ∷ xs) (y ∷ ys) = ap (λ (t : Bool). eqb x y && t) (pointwise_same xs ys)

-- `equal_word`: each byte, lowered, against that of the word
pub at_lowered : (s : List ℕ) (i : ℕ) → get_or (map lower s) i 0 ≡ lower (get_or s i 0)
unfolding lower is_upper within
at_lowered s i = get_or-map lower s i 0

abbrev pub lowers_to : ℕ × ℕ → Bool
lowers_to p = eqb (lower p.0) p.1

pub zip_word : (s word : List ℕ) → length s ≡ length word → list_all lowers_to (zip s word) ≡ same_word s word
unfolding same_word same
zip_word [] [] h = refl
zip_word [] (y ∷ ys) h = absurd (omega arith)
zip_word (x ∷ xs) [] h = absurd (omega arith)
zip_word (x ∷ xs) (y ∷ ys) h = ap (λ (t : Bool). eqb (lower x) y && t) (zip_word xs ys (omega arith))

pub word_lengths : (s word : List ℕ) → (length s ≡ length word → ⊥) → eqb (length s) (length word) ≡ same_word s word
unfolding same_word
word_lengths s word h = ne_eqb (length s) (length word) h ∙ sym (same_lengths (map lower s) word (λ e. h (sym (length-map s lower) ∙ e)))

-- `contains`
eqb_comm : (x y : ℕ) → eqb x y ≡ eqb y x
eqb_comm x y = same_tests (eqb x y) (eqb y x) (λ h. eq-eqb y x (sym (eqb-true x y h))) (λ h. eq-eqb x y (sym (eqb-true y x h)))

pub any_contains : (s : List ℕ) (b : ℕ) → list_any (λ (y : ℕ). eqb y b) s ≡ contains s b
unfolding contains
any_contains [] b = refl
any_contains (x ∷ xs) b = ap (λ (t : Bool). t || list_any (λ (y : ℕ). eqb y b) xs) (eqb_comm x b) ∙ ap (λ (t : Bool). eqb b x || t) (any_contains xs b)

-- `every`
pub every_all : (p : ℕ → Bool) (s : List ℕ) → list_all p s ≡ all p s
unfolding all
every_all p [] = refl
every_all p (x ∷ xs) = ap (λ (t : Bool). p x && t) (every_all p xs)
