-- The zeros that lead a number, and all digits after the 21st besides, decide nothing of t. From the definitions of Keeping and of `text`.
use Rattle.std.proofs.Common.{None, Some}
use Prim.Native.Nat.{ℕ, zero, suc, ◌+◌, ◌-◌, ◌*◌, ◌≤◌, ◌<◌}
use mathlib.Core.Path.{◌≡◌, refl, sym, ap, ◌∙◌}
use mathlib.Core.Logic.{⊎_elim}
use mathlib.Core.List.{List, [], ◌∷◌, ◌++◌}
use mathlib.Core.Bool.{Bool, true, false, cond, ◌&&◌}
use native.Mathlib.Omega.{arith}
use lib.ListN.{length, take, length-append, length-take}
use lib.Seq.{take_all}
use lib.Dec.{leb, ltb, eqb}
use borrow.Author.Tests.{ltb-true, ltb-false, leb-true, le-leb, eqb-true}
use Rattle.text.specs.Bytes.{at, is_digit, within}
use Rattle.text.specs.Lists.{all}
use Rattle.text.specs.Decimal.{decimal_from, decimal, is_decimal, read_decimal}
use Rattle.text.proofs.Laws.Classes.{within_range}
use Rattle.text.proofs.Laws.Digits.{decimal_grows}
use Rattle.text.proofs.Laws.Orders.{le_or_lt}
use Rattle.text.proofs.Laws.Parts.{all_first}
use Rattle.text.proofs.Laws.Tests.{and_left, and_right, cond-elim, test_fails}
use Rattle.check_input.specs.Keeping.{without_zeros, time_front}

-- a zero before a number
zero_digits : (t : List ℕ) → 0 < length t → is_decimal (48 ∷ t) ≡ is_decimal t
unfolding is_decimal all is_digit within
zero_digits t h =
    ap (λ (b : Bool). b && all is_digit (48 ∷ t)) (le-leb 1 (length (48 ∷ t)) (omega arith))
    ∙ sym (ap (λ (b : Bool). b && all is_digit t) (le-leb 1 (length t) h))

zero_value : (t : List ℕ) → decimal (48 ∷ t) ≡ decimal t
unfolding decimal decimal_from
zero_value t = refl

zero_leads : (limit : ℕ) (t : List ℕ) → 0 < length t → read_decimal limit (48 ∷ t) ≡ read_decimal limit t
unfolding read_decimal
zero_leads limit t h = rw (zero_digits t h, zero_value t)

-- the value of a number that has n more digits after those of value v is at least v with n zeros
unfoldable grown : ℕ → ℕ → ℕ
grown v zero = v
grown v (suc n) = grown (10 * v) n

grown_least : (n k v : ℕ) (t : List ℕ) → k ≤ v → n ≤ length t → grown k n ≤ decimal_from v t
unfolding grown decimal_from
grown_least zero k v t h l = omega (arith, decimal_grows v t)
grown_least (suc n) k v [] h l = absurd (omega arith)
grown_least (suc n) k v (d ∷ t) h l = grown_least n (10 * k) (10 * v + (d - 48)) t (omega arith) (omega arith)

large : (b : ℕ) (t : List ℕ) → is_digit b ≡ true → (b ≡ 48 → ⊥) → 20 ≤ length t → 18446744073709551615 < decimal (b ∷ t)
unfolding decimal decimal_from grown is_digit
large b t h n l =
    let r = within_range 48 57 b h in
    let o : 49 ≤ b = ⊎_elim (λ (p : b ≤ 48). absurd (n (omega (arith, r.0)))) (λ (p : 48 < b). omega arith) (le_or_lt b 48) in
    let g = grown_least 20 1 (10 * 0 + (b - 48)) t (omega arith) l in
    omega arith

long_refused : (w : List ℕ) → 21 ≤ length w → (at w 0 ≡ 48 → ⊥) → read_decimal 18446744073709551615 w ≡ None
unfolding read_decimal is_decimal
long_refused [] h n = absurd (omega arith)
long_refused (b ∷ t) h n = ap (λ (c : Bool). cond c (Some (decimal (b ∷ t))) None) (test_fails _ refuses)
  where
    refuses : ((leb 1 (length (b ∷ t)) && all is_digit (b ∷ t)) && leb (decimal (b ∷ t)) 18446744073709551615) ≡ true → ⊥
    refuses e =
        let d = and_right (leb 1 (length (b ∷ t))) (all is_digit (b ∷ t)) (and_left _ (leb (decimal (b ∷ t)) 18446744073709551615) e) in
        let l = leb-true (decimal (b ∷ t)) 18446744073709551615 (and_right (leb 1 (length (b ∷ t)) && all is_digit (b ∷ t)) _ e) in
        let g = large b t (all_first is_digit b t d) n (omega arith) in
        omega arith

-- what is left begins with no zero, unless it is all that is left
zeros_first : (s : List ℕ) → 1 < length (without_zeros s) → at (without_zeros s) 0 ≡ 48 → ⊥
unfolding without_zeros
zeros_first [] = λ h e. omega arith
zeros_first (b ∷ s) =
    cond-elim (λ (w : List ℕ). 1 < length w → at w 0 ≡ 48 → ⊥) (eqb b 48 && ltb 0 (length s))
    (λ _. zeros_first s)
    (λ q h e. first q h e)
  where
    first : (eqb b 48 && ltb 0 (length s)) ≡ false → 1 < length (b ∷ s) → b ≡ 48 → ⊥
    first q h e = let z : ltb 0 (length s) ≡ false = rw e at q in omega (arith, ltb-false 0 (length s) z)

module _ (r : List ℕ) where
  abbrev limit : ℕ
  limit = 18446744073709551615

  zeros_same : (s : List ℕ) → read_decimal limit (without_zeros s ++ r) ≡ read_decimal limit (s ++ r)
  unfolding without_zeros
  zeros_same [] = refl
  zeros_same (b ∷ s) =
      cond-elim (λ (w : List ℕ). read_decimal limit (w ++ r) ≡ read_decimal limit (b ∷ s ++ r)) (eqb b 48 && ltb 0 (length s))
      (λ q. zeros_same s ∙ sym (dropped q))
      (λ _. refl)
    where
      dropped : (eqb b 48 && ltb 0 (length s)) ≡ true → read_decimal limit (b ∷ s ++ r) ≡ read_decimal limit (s ++ r)
      dropped q =
          let z = eqb-true b 48 (and_left (eqb b 48) (ltb 0 (length s)) q) in
          let l = ltb-true 0 (length s) (and_right (eqb b 48) (ltb 0 (length s)) q) in
          rw z (zero_leads limit (s ++ r) (rw length-append (omega arith)))

  at_front : (w : List ℕ) → 0 < length w → at (w ++ r) 0 ≡ at w 0
  at_front [] h = absurd (omega arith)
  at_front (b ∷ w) h = refl

  at_taken : (w : List ℕ) → 0 < length w → at (take 21 w ++ r) 0 ≡ at w 0
  at_taken [] h = absurd (omega arith)
  at_taken (b ∷ w) h = refl

  cut_same : (w : List ℕ) → (1 < length w → at w 0 ≡ 48 → ⊥) → read_decimal limit (take 21 w ++ r) ≡ read_decimal limit (w ++ r)
  cut_same w n = ⊎_elim
      (λ (h : length w ≤ 21). rw (take_all 21 w h))
      (λ (h : 21 < length w).
      long_refused (take 21 w ++ r) (rw (length-append, length-take) (omega arith)) (λ e. n (omega arith) (sym (at_taken w (omega arith)) ∙ e))
      ∙ sym (long_refused (w ++ r) (rw length-append (omega arith)) (λ e. n (omega arith) (sym (at_front w (omega arith)) ∙ e))))
      (le_or_lt (length w) 21)

  pub time_same : (s : List ℕ) → read_decimal limit (time_front s ++ r) ≡ read_decimal limit (s ++ r)
  unfolding time_front
  time_same s = cut_same (without_zeros s) (zeros_first s) ∙ zeros_same s
