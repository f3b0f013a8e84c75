-- A number's numeral: it is written by its leading digits and then the last one, and read again it is the number, in digits, with no leading
-- zero. From the definitions of Digits and of the crate text.
use Rattle.std.proofs.Common.{Some}
use Prim.Native.Nat.{ℕ, zero, suc, ◌+◌, ◌-◌, ◌*◌, ◌/◌, ◌%◌, ◌^◌, ◌≤◌, ◌<◌}
use mathlib.Core.Path.{◌≡◌, refl, sym, ◌∙◌}
use mathlib.Core.List.{List, [], ◌∷◌, ◌++◌}
use mathlib.Core.Bool.{true}
use mathlib.Core.Logic.{⊎_elim}
use native.Mathlib.Omega.{arith}
use native.Mathlib.Nat.{pow-zero, pow-suc, one-mul, div-lt_iff_lt-mul}
use lib.ListN.{length, get_or, length-append, get_or-append}
use lib.Dec.{ltb, leb}
use borrow.Author.Tests.{lt-ltb, le-ltb, ltb-true, ltb-false, le-leb, ne_eqb}
use Rattle.text.specs.Bytes.{is_digit}
use Rattle.text.specs.Lists.{all}
use Rattle.text.specs.Decimal.{decimal_from, decimal, is_decimal, read_decimal, has_no_leading_zero, read_number}
use Rattle.text.specs.Writing.{Wrote}
use Rattle.text.proofs.Laws.Tests.{cond-elim, and_both, or_right}
use Rattle.text.proofs.Laws.Classes.{range_within}
use Rattle.text.proofs.Laws.Parts.{all_none, all_join_by}
use Rattle.text.proofs.Laws.Orders.{le_or_lt}
use Rattle.text.proofs.Laws.Writing.{wrote_then}
use Rattle.address_text.specs.Digits.{digit, numeral, in_decimal}

-- a digit as its byte
pub digit_below : (n : ℕ) → n < 10 → digit n ≡ 48 + n
unfolding digit
digit_below n h = simp (lt-ltb n 10 h)

-- below the base one digit; otherwise the digits of the quotient and then the remainder's
pub numeral_one : (f base n : ℕ) → n < base → numeral f base n ≡ digit n ∷ []
unfolding numeral
numeral_one zero base n h = refl
numeral_one (suc f) base n h = simp (lt-ltb n base h)

pub numeral_more : (f base n : ℕ) → base ≤ n → numeral (suc f) base n ≡ numeral f base (n / base) ++ (digit (n % base) ∷ [])
unfolding numeral
numeral_more f base n h = simp (le-ltb n base h)

-- a quotient has one digit less
pub quotient_small : (f base n : ℕ) → 0 < base → n < base ^ suc (suc f) → n / base < base ^ suc f
quotient_small f base n p h = (div-lt_iff_lt-mul p).1 (rw pow-suc at h)

-- `put_numeral`
module _ (v base : ℕ) (out : List ℕ) (at : ℕ) (d : ℕ) (after : List ℕ) (next : ℕ) where
  pub numeral_end : v < base → d ≡ digit v → Wrote (d ∷ []) out at after next
      → (f : ℕ) → v < base ^ suc f → Wrote (numeral f base v) out at after next
  numeral_end h e w f k = rw (numeral_one f base v h, ← e) w

  pub numeral_then : base ≤ v → (2 ≤ base) × (base ≤ 16) → d ≡ digit (v % base) → (o : List ℕ) (n : ℕ)
      → ((f : ℕ) → v / base < base ^ suc f → Wrote (numeral f base (v / base)) out at o n) → Wrote (d ∷ []) o n after next
      → (f : ℕ) → v < base ^ suc f → Wrote (numeral f base v) out at after next
  numeral_then h b e o n w z zero k =
      let single : base ^ 1 ≡ base = pow-suc base 0 ∙ rw pow-zero (one-mul base) in absurd (omega arith)
  numeral_then h b e o n w z (suc f) k =
      rw (numeral_more f base v h, ← e)
      (wrote_then out at (numeral f base (v / base)) (d ∷ []) o after n next (w f (quotient_small f base v (omega arith) k)) z)

-- `put_decimal`
pub decimal_written : (v : ℕ) → v < 2 ^ 64 → (out : List ℕ) (at : ℕ) (after : List ℕ) (next : ℕ)
    → ((f : ℕ) → v < 10 ^ suc f → Wrote (numeral f 10 v) out at after next) → Wrote (in_decimal v) out at after next
unfolding in_decimal
decimal_written v h out at after next w = w 19 (omega arith)

-- the decimal numeral of a number: digits with that value, the first of which is 0 only in the text of 0
record Numeral (n : ℕ) (s : List ℕ) : Type 0 where
  pub some : 0 < length s
  pub one : n < 10 → length s ≡ 1
  pub first : 0 < n → get_or s 0 0 ≡ 48 → ⊥
  pub digits : all is_digit s ≡ true
  pub value : decimal_from 0 s ≡ n

digit_digit : (n : ℕ) → n < 10 → is_digit (digit n) ≡ true
unfolding is_digit
digit_digit n h = rw (digit_below n h) (range_within 48 57 (48 + n) (omega arith) (omega arith))

digit_value_lem : (n v : ℕ) → n < 10 → 10 * v + (digit n - 48) ≡ 10 * v + n
digit_value_lem n v h = rw (digit_below n h) (omega arith)

decimal_snoc : (v : ℕ) (s : List ℕ) (d : ℕ) → decimal_from v (s ++ (d ∷ [])) ≡ 10 * decimal_from v s + (d - 48)
unfolding decimal_from
decimal_snoc v [] d = refl
decimal_snoc v (x ∷ s) d = decimal_snoc (10 * v + (x - 48)) s d

one_digit : (n : ℕ) → n < 10 → Numeral n (digit n ∷ [])
unfolding all decimal_from
one_digit n h =
    record {
      some = omega arith;
      one = λ _. refl;
      first = λ p e. let d = digit_below n h in omega arith;
      digits = and_both (is_digit (digit n)) true (digit_digit n h) refl;
      value = digit_value_lem n 0 h ∙ omega arith;
    }

more_digits : (n : ℕ) (s : List ℕ) → 10 ≤ n → Numeral (n / 10) s → Numeral n (s ++ (digit (n % 10) ∷ []))
more_digits n s h r =
    record {
      some = simp length-append (omega arith);
      one = λ p. absurd (omega arith);
      first = λ p e. r.first (omega arith) (sym (get_or-append s (digit (n % 10) ∷ []) 0 0 r.some) ∙ e);
      digits = all_join_by is_digit s (digit (n % 10)) [] r.digits (digit_digit (n % 10) (omega arith)) (all_none is_digit);
      value = decimal_snoc 0 s (digit (n % 10)) ∙ rw r.value (digit_value_lem (n % 10) (n / 10) (omega arith) ∙ omega arith);
    }

numeral_right : (f n : ℕ) → n < 10 ^ suc f → Numeral n (numeral f 10 n)
unfolding numeral
numeral_right zero n h = one_digit n (omega arith)
numeral_right (suc f) n h = cond-elim (Numeral n) (ltb n 10)
    (λ e. one_digit n (ltb-true n 10 e))
    (λ e. more_digits n (numeral f 10 (n / 10)) (ltb-false n 10 e) (numeral_right f (n / 10) (quotient_small f 10 n (omega arith) h)))

-- the text of a u64 in decimal: digits, with no leading zero, of which the value is the number
pub record IsDecimalOf (v : ℕ) (s : List ℕ) : Type 0 where
  pub digits : is_decimal s ≡ true
  pub no_leading_zero : has_no_leading_zero s ≡ true
  pub value : decimal s ≡ v

numeral_plain : (n : ℕ) (s : List ℕ) → Numeral n s → has_no_leading_zero s ≡ true
unfolding has_no_leading_zero
numeral_plain n s r = ⊎_elim
    (λ (h : n ≤ 9). simp (le-leb (length s) 1 (omega (arith, r.one (omega arith)))))
    (λ (h : 9 < n). simp (ne_eqb (get_or s 0 0) 48 (r.first (omega arith))) (or_right (leb (length s) 1) true refl))
    (le_or_lt n 9)

pub in_decimal_lem : (v : ℕ) → v < 2 ^ 64 → IsDecimalOf v (in_decimal v)
unfolding in_decimal is_decimal decimal
in_decimal_lem v h =
    let r = numeral_right 19 v (omega arith) in
    record {
      digits = simp (le-leb 1 (length (numeral 19 10 v)) r.some) r.digits;
      no_leading_zero = numeral_plain v (numeral 19 10 v) r;
      value = r.value;
    }

-- read again, it is the number: this tells a reader that the writer of decimals and their reader agree
pub read_in_decimal : (v limit : ℕ) → v < 2 ^ 64 → v ≤ limit → read_number limit (in_decimal v) ≡ Some v
unfolding read_number read_decimal
read_in_decimal v limit h l =
    let r = in_decimal_lem v h in
    simp (r.no_leading_zero, r.digits, r.value, le-leb v limit l)
