-- Bytes of a class as numbers, a class by its own test, two classes apart, and two tests that agree at each of the 256 bytes, by computation.
-- From the definitions of Bytes and Runs and the laws of tests.
use Prim.Native.Nat.{ℕ, zero, suc, ◌+◌, ◌≤◌, ◌<◌}
use mathlib.Core.Path.{◌≡◌, refl, sym, ap, ◌∙◌}
use mathlib.Core.Bool.{Bool, true, false, cond, not, beq}
use mathlib.Core.List.{List, [], ◌∷◌}
use mathlib.Core.Logic.{⊎_elim}
use native.Mathlib.Omega.{arith}
use lib.ListN.{length, get_or-eq_default}
use lib.Dec.{leb, ltb, eqb}
use borrow.Author.Tests.{leb-true, leb-false, le-leb, le-ltb, lt-ltb, lt-leb, eqb-true, eqb-false, ne_eqb}
use Rattle.std.specs.Char.{to_ascii_lowercase}
use Rattle.text.specs.Bytes.{at, within, lower, is_space, is_not_space, is_not_dot, is_not_colon, is_not_slash, is_upper, is_not_upper, is_alpha, is_digit, is_length_byte, is_alphanumeric, is_hex_digit, is_visible, is_printable, is_label_byte, is_table_label_byte, is_name_byte, is_toplabel_byte, is_macro_literal, is_delimiter}
use Rattle.text.specs.Lists.{all}
use Rattle.text.specs.Runs.{is_in}
use Rattle.text.specs.declared.bytes.Class.{Class}
use Rattle.text.specs.declared.bytes.Class.TheVariants.{Space, NotSpace, NotDot, NotColon, NotSlash, Upper, NotUpper, Alpha, Digit, LengthByte, Alphanumeric, HexDigit, Visible, Printable, LabelByte, TableLabelByte, NameByte, ToplabelByte, MacroLiteral, Delimiter}
use Rattle.text.proofs.Laws.Orders.{le_or_lt}
use Rattle.text.proofs.Laws.Tests.{cond-elim, and_left, and_right}

-- a range of bytes, as numbers
pub within_range : (lo hi b : ℕ) → within lo hi b ≡ true → (lo ≤ b) × (b ≤ hi)
unfolding within
within_range lo hi b h = (leb-true lo b (and_left (leb lo b) (leb b hi) h), leb-true b hi (and_right (leb lo b) (leb b hi) h))

pub range_within : (lo hi b : ℕ) → lo ≤ b → b ≤ hi → within lo hi b ≡ true
unfolding within
range_within lo hi b p q = simp (le-leb lo b p, le-leb b hi q)

-- a class's test by its own name, of a byte and of every byte of a list
abbrev pub test_of : Class → ℕ → Bool
test_of Space = is_space
test_of NotSpace = is_not_space
test_of NotDot = is_not_dot
test_of NotColon = is_not_colon
test_of NotSlash = is_not_slash
test_of Upper = is_upper
test_of NotUpper = is_not_upper
test_of Alpha = is_alpha
test_of Digit = is_digit
test_of LengthByte = is_length_byte
test_of Alphanumeric = is_alphanumeric
test_of HexDigit = is_hex_digit
test_of Visible = is_visible
test_of Printable = is_printable
test_of LabelByte = is_label_byte
test_of TableLabelByte = is_table_label_byte
test_of NameByte = is_name_byte
test_of ToplabelByte = is_toplabel_byte
test_of MacroLiteral = is_macro_literal
test_of Delimiter = is_delimiter

pub class_test : (c : Class) (b : ℕ) → is_in c b ≡ test_of c b
unfolding is_in
class_test Space b = refl
class_test NotSpace b = refl
class_test NotDot b = refl
class_test NotColon b = refl
class_test NotSlash b = refl
class_test Upper b = refl
class_test NotUpper b = refl
class_test Alpha b = refl
class_test Digit b = refl
class_test LengthByte b = refl
class_test Alphanumeric b = refl
class_test HexDigit b = refl
class_test Visible b = refl
class_test Printable b = refl
class_test LabelByte b = refl
class_test TableLabelByte b = refl
class_test NameByte b = refl
class_test ToplabelByte b = refl
class_test MacroLiteral b = refl
class_test Delimiter b = refl

pub class_tests : (c : Class) (s : List ℕ) → all (is_in c) s ≡ all (test_of c) s
unfolding all
class_tests c [] = refl
class_tests c (b ∷ s) = rw (class_test c b, class_tests c s)

pub space_is : (b : ℕ) → is_space b ≡ true → b ≡ 32
unfolding is_space
space_is b h = eqb-true b 32 h

-- a byte of a class isn't a byte outside it
pub apart : (p : ℕ → Bool) (b k : ℕ) → p b ≡ true → p k ≡ false → eqb b k ≡ false
apart p b k h n = ne_eqb b k (λ e. let z : ◌≡◌ {A = ℕ} 0 1 = cc in omega arith)

-- what isn't the 0 past the end lies inside
pub nonzero_inside : (s : List ℕ) (i : ℕ) → (at s i ≡ 0 → ⊥) → i < length s
nonzero_inside [] i h = absurd (h refl)
nonzero_inside (x ∷ xs) zero h = omega arith
nonzero_inside (x ∷ xs) (suc i) h = let r = nonzero_inside xs i h in omega arith

pub class_inside : (p : ℕ → Bool) → p 0 ≡ false → (s : List ℕ) (i : ℕ) → p (at s i) ≡ true → i < length s
class_inside p n s i h = nonzero_inside s i (λ e. let z : ◌≡◌ {A = ℕ} 0 1 = cc in omega arith)

-- a test that holds of every number below n, by computation
abbrev pub all_below : ℕ → (ℕ → Bool) → Bool
all_below zero p = true
all_below (suc n) p = cond (p n) (all_below n p) false

pub below : (n : ℕ) (p : ℕ → Bool) → all_below n p ≡ true → (k : ℕ) → k < n → p k ≡ true
below zero p h k l = absurd (omega arith)
below (suc n) p h k l = cond-elim (λ (b : Bool). b ≡ true → p k ≡ true) (p n) {x = all_below n p} {y = false}
    (λ e t. cond-elim (λ (b : Bool). p k ≡ true) (eqb k n) {x = true} {y = false}
    (λ q. ap p (eqb-true k n q) ∙ e)
    (λ q. let d = eqb-false k n q in below n p t k (omega arith)))
    (λ e t. absurd (let z : ◌≡◌ {A = ℕ} 0 1 = cc in omega arith))
    h

same_test : (a b : Bool) → beq a b ≡ true → a ≡ b
same_test true true h = refl
same_test true false h = sym h
same_test false true h = h
same_test false false h = refl

pub agree : (f g : ℕ → Bool) → all_below 256 (λ b. beq (f b) (g b)) ≡ true → (b : ℕ) → b < 256 → f b ≡ g b
agree f g h b l = same_test (f b) (g b) (below 256 (λ b. beq (f b) (g b)) h b l)

-- `peek` past the end
pub past_end : (s : List ℕ) (i : ℕ) → length s ≤ i → 0 ≡ at s i
past_end s i h = sym (get_or-eq_default s 0 h)

-- from A on, a byte outside A to Z is one above Z
pub not_upper_high : (b : ℕ) → 65 ≤ b → ltb 90 b ≡ is_not_upper b
unfolding is_not_upper is_upper within
not_upper_high b h = simp (le-leb 65 b h) (by (leb b 90) refl)
  where
    by : (t : Bool) → leb b 90 ≡ t → ltb 90 b ≡ not t
    by true e = le-ltb 90 b (leb-true b 90 e)
    by false e = lt-ltb 90 b (leb-false b 90 e)

-- the library's lower case
pub ascii_lower : (b r : ℕ) → r ≡ to_ascii_lowercase b → r ≡ lower b
unfolding lower is_upper within
ascii_lower b r e = e ∙ ⊎_elim
    (λ (h : 65 ≤ b). simp (le-ltb b 65 h, le-leb 65 b h) (ap (λ (t : Bool). cond t (b + 32) b) (below_leb b 90)))
    (λ (h : b < 65). simp (lt-ltb b 65 h, lt-leb 65 b h))
    (le_or_lt 65 b)
  where
    below_leb : (m n : ℕ) → ltb m (n + 1) ≡ leb m n
    below_leb m n = ⊎_elim (λ (h : m ≤ n). lt-ltb m (n + 1) (omega arith) ∙ sym (le-leb m n h)) (λ (h : n < m). le-ltb m (n + 1) (omega arith) ∙ sym (lt-leb m n h)) (le_or_lt m n)
