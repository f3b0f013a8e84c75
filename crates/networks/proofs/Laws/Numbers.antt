-- The numbers of the grammar are those that are read: a length's number at its limit, and a qnum at 255. From the definitions of Grammar and
-- Decimal.
use Rattle.std.proofs.Common.{None, Option, Some}
use Prim.Native.Nat.{ℕ, suc, ◌+◌, ◌-◌, ◌*◌, ◌≤◌, ◌<◌}
use mathlib.Core.Path.{◌≡◌, refl, sym, ap, subst, ◌∙◌}
use mathlib.Core.List.{List, [], ◌∷◌}
use mathlib.Core.Bool.{Bool, true, false, cond, not, ◌&&◌}
use native.Mathlib.Omega.{arith}
use lib.ListN.{length}
use lib.Dec.{leb, eqb}
use borrow.Author.Tests.{le-leb, leb-true, leb-false, lt-leb, eq-eqb, ne_eqb, eqb-true, eqb-false}
use Rattle.text.specs.Bytes.{within, is_digit}
use Rattle.text.specs.Lists.{all}
use Rattle.text.specs.Decimal.{decimal_from, decimal, is_decimal, read_decimal, has_no_leading_zero, read_number}
use Rattle.text.proofs.Laws.Tests.{cond-elim, and_left, and_right, or_right}
use Rattle.text.proofs.Laws.Classes.{within_range, range_within}
use Rattle.text.proofs.Laws.Parts.{all_none, all_cons, all_first, all_rest}
use Rattle.text.proofs.Laws.Digits.{decimal_grows}
use Rattle.networks.specs.Grammar.{Qnum, units, tens, hundred, two_hundred, two_fifty, LengthNumber, nought, number}

-- digits as numbers
digit_range : (b : ℕ) → is_digit b ≡ true → (48 ≤ b) × (b ≤ 57)
unfolding is_digit
digit_range b h = within_range 48 57 b h

range_digit : (b : ℕ) → 48 ≤ b → b ≤ 57 → is_digit b ≡ true
unfolding is_digit
range_digit b p q = range_within 48 57 b p q

first_digit : (a : ℕ) → within 49 57 a ≡ true → is_digit a ≡ true
first_digit a h = let r = within_range 49 57 a h in range_digit a (omega arith) (omega arith)

decimal_1 : (a : ℕ) → decimal (a ∷ []) ≡ a - 48
unfolding decimal decimal_from
decimal_1 a = omega arith

decimal_2 : (a b : ℕ) → decimal (a ∷ b ∷ []) ≡ 10 * (a - 48) + (b - 48)
unfolding decimal decimal_from
decimal_2 a b = omega arith

decimal_3 : (a b c : ℕ) → decimal (a ∷ b ∷ c ∷ []) ≡ 100 * (a - 48) + 10 * (b - 48) + (c - 48)
unfolding decimal decimal_from
decimal_3 a b c = omega arith

decimal_4 : (a b c d : ℕ) (w : List ℕ) → 1000 * (a - 48) ≤ decimal (a ∷ b ∷ c ∷ d ∷ w)
unfolding decimal decimal_from
decimal_4 a b c d w = omega (arith, decimal_grows (10 * (10 * (10 * (10 * 0 + (a - 48)) + (b - 48)) + (c - 48)) + (d - 48)) w)

-- the digits of a length's number, of which there is one, and its limit
module _ {limit : ℕ} where
  pub number_digits : {w : List ℕ} {n : ℕ} → LengthNumber limit w n → all is_digit w ≡ true
  number_digits nought = all_cons is_digit 48 [] (range_digit 48 (omega arith) (omega arith)) (all_none is_digit)
  number_digits (number {a = a} {w = w} ha hw le) = all_cons is_digit a w (first_digit a ha) hw

  pub number_some : {w : List ℕ} {n : ℕ} → LengthNumber limit w n → 0 < length w
  number_some nought = omega arith
  number_some (number ha hw le) = omega arith

  pub number_limit : {w : List ℕ} {n : ℕ} → LengthNumber limit w n → n ≤ limit
  number_limit nought = omega arith
  number_limit (number ha hw le) = le

-- what is read of digits, and that nothing is of a number above the limit
pub read_digits : (limit : ℕ) (s : List ℕ) → has_no_leading_zero s ≡ true → 0 < length s → all is_digit s ≡ true → decimal s ≤ limit
    → read_number limit s ≡ Some (decimal s)
unfolding read_number read_decimal is_decimal
read_digits limit s z l d h = simp (z, le-leb 1 (length s) l, d, le-leb (decimal s) limit h)

pub number_over : (limit : ℕ) (w : List ℕ) → limit < decimal w → read_number limit w ≡ None
unfolding read_number read_decimal is_decimal
number_over limit w h = rw (lt-leb (decimal w) limit h) (by (has_no_leading_zero w) (leb 1 (length w) && all is_digit w))
  where
    by : (t u : Bool) → cond t (cond (u && false) (Some (decimal w)) None) None ≡ None
    by true true = refl
    by true false = refl
    by false u = refl

no_leading_zero : (a : ℕ) (w : List ℕ) → within 49 57 a ≡ true → has_no_leading_zero (a ∷ w) ≡ true
unfolding has_no_leading_zero
no_leading_zero a w h =
    let r = within_range 49 57 a h in
    let e : not (eqb a 48) ≡ true = simp (ne_eqb a 48 (omega arith)) in
    or_right (leb (suc (length w)) 1) (not (eqb a 48)) e

one_digit : (a : ℕ) → has_no_leading_zero (a ∷ []) ≡ true
unfolding has_no_leading_zero
one_digit a = refl

-- what the grammar makes is read
pub number_read : {limit : ℕ} {w : List ℕ} {n : ℕ} → LengthNumber limit w n → read_number limit w ≡ Some n
number_read {limit} nought =
    let e : decimal (48 ∷ []) ≡ 0 = decimal_1 48 in
    read_digits limit (48 ∷ []) (one_digit 48) (omega arith) (number_digits {limit = limit} nought) (omega arith) ∙ ap Some e
number_read {limit} (number {a = a} {w = w} ha hw le) =
    read_digits limit (a ∷ w) (no_leading_zero a w ha) (omega arith) (all_cons is_digit a w (first_digit a ha) hw) le

-- what is read the grammar makes
abbrev Right : ℕ → List ℕ → Option ℕ → Type 0
Right limit w (Some n) = LengthNumber limit w n
Right limit w None = Unit {0}

nonzero_first : (a b : ℕ) (w : List ℕ) → has_no_leading_zero (a ∷ b ∷ w) ≡ true → a ≡ 48 → ⊥
unfolding has_no_leading_zero
nonzero_first a b w h e = let z = sym (simp (eq-eqb a 48 e, lt-leb (suc (suc (length w))) 1 (omega arith)) at h) in let k : ◌≡◌ {A = ℕ} 0 1 = cc in omega arith

first_range : (a : ℕ) → is_digit a ≡ true → (a ≡ 48 → ⊥) → within 49 57 a ≡ true
first_range a h n = let r = digit_range a h in range_within 49 57 a (omega arith) (omega arith)

digits_made : (limit : ℕ) (w : List ℕ) → has_no_leading_zero w ≡ true → 0 < length w → all is_digit w ≡ true → decimal w ≤ limit
    → LengthNumber limit w (decimal w)
digits_made limit [] z l d h = absurd (omega arith)
digits_made limit (a ∷ []) z l d h = by (eqb a 48) refl
  where
    by : (t : Bool) → eqb a 48 ≡ t → LengthNumber limit (a ∷ []) (decimal (a ∷ []))
    by true e = rw (eqb-true a 48 e, decimal_1 48) nought
    by false e = number (first_range a (all_first is_digit a [] d) (eqb-false a 48 e)) (all_none is_digit) h
digits_made limit (a ∷ b ∷ w) z l d h =
    number (first_range a (all_first is_digit a (b ∷ w) d) (nonzero_first a b w z)) (all_rest is_digit a (b ∷ w) d) h

number_right : (limit : ℕ) (w : List ℕ) → Right limit w (read_number limit w)
unfolding read_number read_decimal is_decimal
number_right limit w =
    cond-elim (Right limit w) (has_no_leading_zero w)
    (λ z. cond-elim (Right limit w) ((leb 1 (length w) && all is_digit w) && leb (decimal w) limit)
    (λ e. let f = and_left (leb 1 (length w) && all is_digit w) (leb (decimal w) limit) e in
    digits_made limit w z (leb-true 1 (length w) (and_left (leb 1 (length w)) (all is_digit w) f)) (and_right (leb 1 (length w)) (all is_digit w) f)
    (leb-true (decimal w) limit (and_right (leb 1 (length w) && all is_digit w) (leb (decimal w) limit) e)))
    (λ _. tt))
    (λ _. tt)

pub number_made : (limit : ℕ) (w : List ℕ) (n : ℕ) → read_number limit w ≡ Some n → LengthNumber limit w n
number_made limit w n e = subst (Right limit w) e (number_right limit w)

-- a qnum is a number up to 255
pub qnum_number : {w : List ℕ} {v : ℕ} → Qnum w v → LengthNumber 255 w v
qnum_number (units {a = a} da) =
    let r = digit_range a da in
    digits_made 255 (a ∷ []) (one_digit a) (omega arith) (all_cons is_digit a [] da (all_none is_digit)) (omega (arith, decimal_1 a))
qnum_number (tens {a = a} {b = b} da db) =
    let r = within_range 49 57 a da in
    let s = digit_range b db in
    number da (all_cons is_digit b [] db (all_none is_digit)) (omega (arith, decimal_2 a b))
qnum_number (hundred {b = b} {c = c} db dc) =
    let r = digit_range b db in
    let s = digit_range c dc in
    number (range_within 49 57 49 (omega arith) (omega arith)) (all_cons is_digit b (c ∷ []) db (all_cons is_digit c [] dc (all_none is_digit))) (omega (arith, decimal_3 49 b c))
qnum_number (two_hundred {b = b} {c = c} db dc) =
    let r = within_range 48 52 b db in
    let s = digit_range c dc in
    number (range_within 49 57 50 (omega arith) (omega arith)) (all_cons is_digit b (c ∷ []) (range_digit b (omega arith) (omega arith)) (all_cons is_digit c [] dc (all_none is_digit)))
    (omega (arith, decimal_3 50 b c))
qnum_number (two_fifty {c = c} dc) =
    let s = within_range 48 53 c dc in
    number (range_within 49 57 50 (omega arith) (omega arith))
    (all_cons is_digit 53 (c ∷ []) (range_digit 53 (omega arith) (omega arith)) (all_cons is_digit c [] (range_digit c (omega arith) (omega arith)) (all_none is_digit)))
    (omega (arith, decimal_3 50 53 c))

-- three digits with a value up to 255
three_digits : (a b c : ℕ) → within 49 57 a ≡ true → is_digit b ≡ true → is_digit c ≡ true → decimal (a ∷ b ∷ c ∷ []) ≤ 255
    → Qnum (a ∷ b ∷ c ∷ []) (decimal (a ∷ b ∷ c ∷ []))
three_digits a b c da db dc h = by (eqb a 49) refl
  where
    ra : (49 ≤ a) × (a ≤ 57)
    ra = within_range 49 57 a da

    rb : (48 ≤ b) × (b ≤ 57)
    rb = digit_range b db

    rc : (48 ≤ c) × (c ≤ 57)
    rc = digit_range c dc

    below_fifty : a ≡ 50 → (t : Bool) → leb b 52 ≡ t → Qnum (a ∷ b ∷ c ∷ []) (decimal (a ∷ b ∷ c ∷ []))
    below_fifty e true l = rw e (two_hundred (range_within 48 52 b rb.0 (leb-true b 52 l)) dc)
    below_fifty e false l =
        let f : b ≡ 53 = omega (arith, decimal_3 a b c, h, ra, rb, rc, e, leb-false b 52 l) in
        rw (e, f) (two_fifty (range_within 48 53 c rc.0 (omega (arith, decimal_3 a b c, h, ra, rb, rc, e, f))))

    by : (t : Bool) → eqb a 49 ≡ t → Qnum (a ∷ b ∷ c ∷ []) (decimal (a ∷ b ∷ c ∷ []))
    by true e = rw (eqb-true a 49 e) (hundred db dc)
    by false e = below_fifty (omega (arith, decimal_3 a b c, h, ra, rb, rc, eqb-false a 49 e)) (leb b 52) refl

pub number_qnum : {w : List ℕ} {v : ℕ} → LengthNumber 255 w v → Qnum w v
number_qnum nought = subst (Qnum (48 ∷ [])) (decimal_1 48) (units (range_digit 48 (omega arith) (omega arith)))
number_qnum (number {a = a} {w = w} ha hw le) = by w hw le
  where
    by : (w : List ℕ) → all is_digit w ≡ true → decimal (a ∷ w) ≤ 255 → Qnum (a ∷ w) (decimal (a ∷ w))
    by [] d h = units (first_digit a ha)
    by (b ∷ []) d h = tens ha (all_first is_digit b [] d)
    by (b ∷ c ∷ []) d h = three_digits a b c ha (all_first is_digit b (c ∷ []) d) (all_first is_digit c [] (all_rest is_digit b (c ∷ []) d)) h
    by (b ∷ c ∷ e ∷ w) d h = let r = within_range 49 57 a ha in absurd (omega (arith, decimal_4 a b c e w))
