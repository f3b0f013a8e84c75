-- Classes of the bytes of macro strings: one inside another, two with no byte in common. By computation over the 256 bytes, below which each
-- class lies.
use Prim.Native.Nat.{ℕ, ◌+◌, ◌<◌}
use mathlib.Core.Path.{◌≡◌, refl, sym}
use mathlib.Core.Bool.{Bool, true, false, not, ◌&&◌, ◌||◌}
use native.Mathlib.Omega.{arith}
use lib.Dec.{eqb}
use borrow.Author.Tests.{eqb-true}
use Rattle.text.specs.Bytes.{within, lower, is_upper, is_alpha, is_digit, is_alphanumeric, is_toplabel_byte, is_macro_literal, is_delimiter}
use Rattle.text.proofs.Laws.Tests.{cond-elim, or_elim, or_left, true_false}
use Rattle.text.proofs.Laws.Classes.{within_range, all_below, below}
use Rattle.macros.specs.Reader.{is_reverse}

-- a test of every byte that holds by computation
module _ (p q : ℕ → Bool) (b : ℕ) (small : b < 256) (holds : p b ≡ true) where
  pub inside : all_below 256 (λ b. not (p b) || q b) ≡ true → q b ≡ true
  inside h = by (p b) holds (below 256 (λ b. not (p b) || q b) h b small)
    where
      by : (t : Bool) → t ≡ true → (not t || q b) ≡ true → q b ≡ true
      by true e k = k
      by false e k = let z : ◌≡◌ {A = ℕ} 0 1 = cc in absurd (omega arith)

  pub outside : all_below 256 (λ b. not (p b && q b)) ≡ true → q b ≡ false
  outside h = by (p b) (q b) holds (below 256 (λ b. not (p b && q b)) h b small)
    where
      by : (t u : Bool) → t ≡ true → not (t && u) ≡ true → u ≡ false
      by true true e k = sym k
      by true false e k = refl
      by false u e k = let z : ◌≡◌ {A = ℕ} 0 1 = cc in absurd (omega arith)

-- each class lies below 256
module _ (b : ℕ) where
  range_small : (lo hi : ℕ) → hi < 256 → within lo hi b ≡ true → b < 256
  range_small lo hi h k = omega (arith, within_range lo hi b k)

  byte_small : (n : ℕ) → n < 256 → eqb b n ≡ true → b < 256
  byte_small n h k = omega (arith, eqb-true b n k)

  digit_small : is_digit b ≡ true → b < 256
  unfolding is_digit
  digit_small h = range_small 48 57 (omega arith) h

  alpha_small : is_alpha b ≡ true → b < 256
  unfolding is_alpha is_upper
  alpha_small h = or_elim (within 65 90 b) (within 97 122 b) h (range_small 65 90 (omega arith)) (range_small 97 122 (omega arith))

  alphanumeric_small : is_alphanumeric b ≡ true → b < 256
  unfolding is_alphanumeric
  alphanumeric_small h = or_elim (is_alpha b) (is_digit b) h alpha_small digit_small

  toplabel_small : is_toplabel_byte b ≡ true → b < 256
  unfolding is_toplabel_byte
  toplabel_small h = or_elim (is_alphanumeric b) (eqb b 45) h alphanumeric_small (byte_small 45 (omega arith))

  delimiter_small : is_delimiter b ≡ true → b < 256
  unfolding is_delimiter
  delimiter_small h = or_elim (within 43 47 b) (eqb b 95 || eqb b 61) h (range_small 43 47 (omega arith))
      (λ k. or_elim (eqb b 95) (eqb b 61) k (byte_small 95 (omega arith)) (byte_small 61 (omega arith)))

  reverse_small : is_reverse b ≡ true → b < 256
  unfolding is_reverse lower
  reverse_small h = cond-elim (λ (n : ℕ). n ≡ 114 → b < 256) (is_upper b) {x = b + 32} {y = b} (λ _ e. omega arith) (λ _ e. omega arith) (eqb-true (lower b) 114 h)

  -- in a macro in braces: what follows the digits is no digit, and what follows where no r stands is no r
  pub delimiter_no_digit : is_delimiter b ≡ true → is_digit b ≡ false
  unfolding is_delimiter is_digit within
  delimiter_no_digit h = outside is_delimiter is_digit b (delimiter_small h) h refl

  pub delimiter_no_reverse : is_delimiter b ≡ true → is_reverse b ≡ false
  unfolding is_delimiter is_reverse lower is_upper within
  delimiter_no_reverse h = outside is_delimiter is_reverse b (delimiter_small h) h refl

  pub reverse_no_digit : is_reverse b ≡ true → is_digit b ≡ false
  unfolding is_digit is_reverse lower is_upper within
  reverse_no_digit h = outside is_reverse is_digit b (reverse_small h) h refl

  -- in a top label
  pub alpha_no_digit : is_alpha b ≡ true → is_digit b ≡ false
  unfolding is_alpha is_digit is_upper within
  alpha_no_digit h = outside is_alpha is_digit b (alpha_small h) h refl

  pub alpha_alphanumeric : is_alpha b ≡ true → is_alphanumeric b ≡ true
  unfolding is_alphanumeric
  alpha_alphanumeric h = or_left (is_alpha b) (is_digit b) h

  pub alphanumeric_toplabel : is_alphanumeric b ≡ true → is_toplabel_byte b ≡ true
  unfolding is_toplabel_byte
  alphanumeric_toplabel h = or_left (is_alphanumeric b) (eqb b 45) h

  pub toplabel_literal : is_toplabel_byte b ≡ true → is_macro_literal b ≡ true
  unfolding is_toplabel_byte is_alphanumeric is_alpha is_digit is_upper is_macro_literal within
  toplabel_literal h = inside is_toplabel_byte is_macro_literal b (toplabel_small h) h refl

  pub toplabel_no_dot : is_toplabel_byte b ≡ true → eqb b 46 ≡ false
  unfolding is_toplabel_byte is_alphanumeric is_alpha is_digit is_upper within
  toplabel_no_dot h = outside is_toplabel_byte (λ b. eqb b 46) b (toplabel_small h) h refl

  pub letter_of : is_alphanumeric b ≡ true → is_digit b ≡ false → is_alpha b ≡ true
  unfolding is_alphanumeric
  letter_of h n = or_elim (is_alpha b) (is_digit b) h (λ e. e) (λ e. absurd (true_false (is_digit b) e n))

  pub hyphen_of : is_toplabel_byte b ≡ true → is_alphanumeric b ≡ false → b ≡ 45
  unfolding is_toplabel_byte
  hyphen_of h n = or_elim (is_alphanumeric b) (eqb b 45) h (λ e. absurd (true_false (is_alphanumeric b) e n)) (eqb-true b 45)
