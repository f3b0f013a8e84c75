-- An octet read digit by digit, in one pass, is the octet of the longest run of digits. From the laws of Runs, Digits and Numbers.
use Rattle.std.proofs.Common.{None, Some}
use Prim.Native.Nat.{ℕ, suc, ◌+◌, ◌-◌, ◌*◌, ◌≤◌, ◌<◌}
use mathlib.Core.Path.{◌≡◌, refl, sym, ap, ◌∙◌}
use mathlib.Core.List.{List, [], ◌∷◌}
use mathlib.Core.Bool.{Bool, true, false, not}
use native.Mathlib.Omega.{arith}
use native.Mathlib.Numerals.{add-one}
use native.Mathlib.Nat.{add-zero, add-sub_cancel_left}
use lib.ListN.{length, take, drop, length-drop}
use lib.Seq.{drop-cons, get_or-drop, get_or-take}
use lib.Dec.{leb, eqb}
use borrow.Author.Tests.{le-leb, ne_eqb}
use Rattle.text.specs.Bytes.{at, part, within, is_digit}
use Rattle.text.specs.Lists.{all}
use Rattle.text.specs.Decimal.{decimal_from, decimal, is_decimal, read_decimal, has_no_leading_zero, read_number}
use Rattle.text.specs.Runs.{is_in, run, run_end}
use Rattle.text.specs.declared.bytes.Class.TheVariants.{Digit}
use Rattle.text.proofs.Laws.Tests.{or_left, or_right}
use Rattle.text.proofs.Laws.Classes.{class_tests}
use Rattle.text.proofs.Laws.Digits.{decimal_grows, number_zero}
use Rattle.text.proofs.Laws.Runs.{run_le, run_cons, run_end_next, loop_here, loop_out, run_span, run_span_all}
use Rattle.networks.specs.Reader.{octet_at}
use Rattle.networks.proofs.Laws.Numbers.{read_digits, number_over}

-- the place after the digits from a place on, and these digits
abbrev pub end_at : List ℕ → ℕ → ℕ
end_at s i = run_end (is_in Digit) s i

abbrev pub digits_at : List ℕ → ℕ → List ℕ
digits_at s i = part s i (end_at s i)

module _ (s : List ℕ) (i : ℕ) where
  pub digits_run : digits_at s i ≡ take (run (is_in Digit) (drop i s)) (drop i s)
  unfolding run_end
  digits_run = simp add-sub_cancel_left

  digits_size : end_at s i ≡ i + length (digits_at s i)
  digits_size = (run_span (is_in Digit) s i).size

  digits_none : end_at s i ≡ i → digits_at s i ≡ []
  digits_none e = let z : end_at s i - i ≡ 0 = omega arith in rw z

  digits_inside : i < end_at s i → i < length s
  unfolding run_end
  digits_inside h = omega (arith, run_le (is_in Digit) (drop i s), length-drop i s)

  digits_first : i < end_at s i → at (digits_at s i) 0 ≡ at s i
  digits_first h = get_or-take (end_at s i - i) (drop i s) 0 0 (omega arith) ∙ get_or-drop i s 0 0 ∙ simp add-zero

digits_next : (s : List ℕ) (i : ℕ) → i < length s → is_in Digit (at s i) ≡ true → digits_at s i ≡ at s i ∷ digits_at s (i + 1)
digits_next s i h d = digits_run s i
    ∙ simp (drop-cons s i 0 h, run_cons (is_in Digit) (at s i) (drop (suc i) s) d)
    (sym (ap (λ (w : List ℕ). at s i ∷ w) (digits_run s (i + 1) ∙ rw add-one)))

-- the loop of `read_octet`, from k: v is the value of the digits passed
pub record Passed (s : List ℕ) (k v i : ℕ) : Type 0 where
  pub from : k ≤ i
  pub small : v ≤ 255
  pub end : end_at s i ≡ end_at s k
  pub value : decimal_from v (digits_at s i) ≡ decimal (digits_at s k)

pub passed_start : (s : List ℕ) (k : ℕ) → Passed s k 0 k
unfolding decimal
passed_start s k = record { from = omega arith; small = omega arith; end = refl; value = refl }

module _ (s : List ℕ) (k v i : ℕ) (p : Passed s k v i) where
  -- a digit
  module _ (h : i < length s) (r : Bool) (e : r ≡ within 48 57 (at s i)) (q : r ≡ true) where
    digit : is_in Digit (at s i) ≡ true
    unfolding is_in is_digit
    digit = sym e ∙ q

    grown : decimal_from (10 * v + (at s i - 48)) (digits_at s (i + 1)) ≡ decimal (digits_at s k)
    unfolding decimal_from
    grown = rw (digits_next s i h digit) at p.value

    pub passed_next : 10 * v + (at s i - 48) ≤ 255 → Passed s k (10 * v + (at s i - 48)) (i + 1)
    passed_next l = record {
      from = omega arith;
      small = l;
      end = run_end_next (is_in Digit) s i h digit ∙ p.end;
      value = grown;
    }

    pub octet_over : 255 < 10 * v + (at s i - 48) → None ≡ octet_at s k
    unfolding octet_at
    octet_over l =
        let m : 255 < decimal (digits_at s k) = rw (← grown) (omega (arith, decimal_grows (10 * v + (at s i - 48)) (digits_at s (i + 1)))) in
        rw (number_over 255 (digits_at s k) m)

  -- the end of the digits
  pub end_here : i < length s → (r : Bool) → r ≡ within 48 57 (at s i) → r ≡ false → i ≡ end_at s k
  unfolding is_in is_digit
  end_here h r e q = loop_here (is_in Digit) s i k p.end h r e q

  pub end_out : length s ≤ i → i ≡ end_at s k
  end_out h = loop_out (is_in Digit) s i k p.end h

  module _ (e : i ≡ end_at s k) where
    size : i ≡ k + length (digits_at s k)
    size = e ∙ digits_size s k

    total : decimal (digits_at s k) ≡ v
    unfolding decimal_from
    total = sym p.value ∙ ap (decimal_from v) (digits_none s i (p.end ∙ sym e))

    first : k < i → at (digits_at s k) 0 ≡ at s k
    first h = digits_first s k (omega arith)

    pub octet_first : 1 < i - k → k < length s
    octet_first h = digits_inside s k (omega arith)

    pub octet_empty : i ≡ k → None ≡ octet_at s k
    unfolding octet_at read_number read_decimal is_decimal has_no_leading_zero
    octet_empty h = rw (digits_none s k (sym e ∙ h))

    pub octet_zero : 1 < i - k → at s k ≡ 48 → None ≡ octet_at s k
    unfolding octet_at
    octet_zero h z = rw (← (number_zero 255 (digits_at s k) (omega (arith, size)) (first (omega arith) ∙ z)))

    ends : (i ≡ k → ⊥) → has_no_leading_zero (digits_at s k) ≡ true → Some (v, i) ≡ octet_at s k
    unfolding octet_at
    ends n z =
        let d : all is_digit (digits_at s k) ≡ true = sym (class_tests Digit (digits_at s k)) ∙ run_span_all (is_in Digit) s k in
        let r = read_digits 255 (digits_at s k) z (omega (arith, size)) d (rw total p.small) in
        rw (r, total, e)

    module _ (n : i ≡ k → ⊥) where
      pub octet_one : i - k ≤ 1 → Some (v, i) ≡ octet_at s k
      unfolding has_no_leading_zero
      octet_one h = ends n (or_left (leb (length (digits_at s k)) 1) _ (le-leb (length (digits_at s k)) 1 (omega (arith, size))))

      pub octet_more : (at s k ≡ 48 → ⊥) → Some (v, i) ≡ octet_at s k
      unfolding has_no_leading_zero
      octet_more z =
          let f : not (eqb (at (digits_at s k) 0) 48) ≡ true = rw (first (omega arith), ne_eqb (at s k) 48 z) in
          ends n (or_right (leb (length (digits_at s k)) 1) _ f)
