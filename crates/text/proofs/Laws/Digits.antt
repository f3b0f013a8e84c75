-- Numbers in decimal, digit by digit as a loop reads them. From the definitions of Decimal.
use Rattle.std.proofs.Common.{None, Option, Some}
use Rattle.std.specs.Bool.{then_some}
use Prim.Native.Nat.{ℕ, suc, ◌+◌, ◌-◌, ◌*◌, ◌≤◌, ◌<◌, ◌^◌}
use mathlib.Core.Path.{◌≡◌, refl, sym, ap, ◌∙◌}
use mathlib.Core.Logic.{⊎_elim}
use mathlib.Core.List.{List, [], ◌∷◌}
use mathlib.Core.Bool.{Bool, true, false, cond, ◌&&◌}
use native.Mathlib.Omega.{arith}
use native.Mathlib.Numerals.{add-one}
use lib.ListN.{length, get_or, drop, drop_of_length-le}
use lib.Seq.{drop-cons}
use lib.Dec.{leb}
use borrow.Author.Tests.{le-leb, lt-leb, leb-true, leb-false, eq-eqb, ne_eqb}
use Rattle.text.specs.Bytes.{is_digit, within}
use Rattle.text.specs.Lists.{all}
use Rattle.text.specs.Decimal.{decimal_from, decimal, is_decimal, pushed, read_decimal, has_no_leading_zero, read_number}
use Rattle.text.proofs.Laws.Orders.{le_or_lt}
use Rattle.text.proofs.Laws.Classes.{within_range}

-- what is read of the digits that stand after those of value v
unfoldable pub read_from : ℕ → ℕ → List ℕ → Option ℕ
read_from limit v s = cond (all is_digit s && leb (decimal_from v s) limit) (Some (decimal_from v s)) None

-- more digits make no smaller number
pub decimal_grows : (v : ℕ) (s : List ℕ) → v ≤ decimal_from v s
unfolding decimal_from
decimal_grows v [] = omega arith
decimal_grows v (d ∷ s) = let h = decimal_grows (10 * v + (d - 48)) s in omega arith

module _ (limit v : ℕ) where
  from_end : v ≤ limit → read_from limit v [] ≡ Some v
  unfolding read_from decimal_from all
  from_end h = simp (le-leb v limit h)

  from_cons : (b : ℕ) (s : List ℕ) → pushed limit v b ≡ Some (10 * v + (b - 48)) → read_from limit v (b ∷ s) ≡ read_from limit (10 * v + (b - 48)) s
  unfolding read_from decimal_from all pushed
  from_cons b s e = by (is_digit b) e
    where
      by : (t : Bool) → cond (t && leb (10 * v + (b - 48)) limit) (Some (10 * v + (b - 48))) None ≡ Some (10 * v + (b - 48))
          → cond ((t && all is_digit s) && leb (decimal_from (10 * v + (b - 48)) s) limit) (Some (decimal_from (10 * v + (b - 48)) s)) None ≡ read_from limit (10 * v + (b - 48)) s
      by true e = refl
      by false e = let z : ◌≡◌ {A = ℕ} 0 1 = cc in cc

  from_bad : (b : ℕ) (s : List ℕ) → pushed limit v b ≡ None → read_from limit v (b ∷ s) ≡ None
  unfolding read_from decimal_from all pushed
  from_bad b s e = by (is_digit b) (leb (10 * v + (b - 48)) limit) refl e
    where
      over : (u : Bool) → limit < decimal_from (10 * v + (b - 48)) s → cond (u && leb (decimal_from (10 * v + (b - 48)) s) limit) (Some (decimal_from (10 * v + (b - 48)) s)) None ≡ None
      over true h = simp (lt-leb _ _ h)
      over false h = refl

      by : (t l : Bool) → leb (10 * v + (b - 48)) limit ≡ l → cond (t && l) (Some (10 * v + (b - 48))) None ≡ None
          → cond ((t && all is_digit s) && leb (decimal_from (10 * v + (b - 48)) s) limit) (Some (decimal_from (10 * v + (b - 48)) s)) None ≡ None
      by true true q e = let z : ◌≡◌ {A = ℕ} 0 1 = cc in cc
      by true false q e = let h = leb-false (10 * v + (b - 48)) limit q in let g = decimal_grows (10 * v + (b - 48)) s in over (all is_digit s) (omega arith)
      by false l q e = refl

  -- what a pushed digit gives
  pub pushed_value : (b n : ℕ) → pushed limit v b ≡ Some n → (n ≡ 10 * v + (b - 48)) × (n ≤ limit)
  unfolding pushed
  pushed_value b n e = by (is_digit b) (leb (10 * v + (b - 48)) limit) refl e
    where
      by : (t l : Bool) → leb (10 * v + (b - 48)) limit ≡ l → cond (t && l) (Some (10 * v + (b - 48))) None ≡ Some n → (n ≡ 10 * v + (b - 48)) × (n ≤ limit)
      by true true q e = let h : 10 * v + (b - 48) ≡ n = cc in let k = leb-true (10 * v + (b - 48)) limit q in (sym h, omega arith)
      by true false q e = absurd (let z : ◌≡◌ {A = ℕ} 0 1 = cc in omega arith)
      by false l q e = absurd (let z : ◌≡◌ {A = ℕ} 0 1 = cc in omega arith)

-- `push_digit`
pub digit_least : (b : ℕ) (r : Bool) → r ≡ within 48 57 b → r ≡ true → 48 ≤ b
digit_least b r p q = (within_range 48 57 b (sym p ∙ q)).0

module _ (limit v b : ℕ) (r : Bool) (p : r ≡ within 48 57 b) where
  push_over : limit < 10 * v + (b - 48) → r ≡ true → None ≡ pushed limit v b
  unfolding pushed is_digit
  push_over h q = simp (sym p ∙ q, lt-leb (10 * v + (b - 48)) limit h)

  -- the number doesn't fit a word
  module _ (fits : limit < 2 ^ 64) where
    pub push_mul_over : r ≡ true → (v * 10 < 2 ^ 64 → ⊥) → None ≡ pushed limit v b
    push_mul_over q h = ⊎_elim (λ (k : 2 ^ 64 ≤ v * 10). push_over (omega arith) q) (λ (k : v * 10 < 2 ^ 64). absurd (h k)) (le_or_lt (2 ^ 64) (v * 10))

    pub push_add_over : (n : ℕ) → r ≡ true → n ≡ v * 10 → (n + (b - 48) < 2 ^ 64 → ⊥) → None ≡ pushed limit v b
    push_add_over n q e h =
        ⊎_elim (λ (k : 2 ^ 64 ≤ n + (b - 48)). push_over (omega arith) q) (λ (k : n + (b - 48) < 2 ^ 64). absurd (h k)) (le_or_lt (2 ^ 64) (n + (b - 48)))

  pub push_up_to : (n m : ℕ) → r ≡ true → n ≡ v * 10 → m ≡ n + (b - 48) → then_some (leb m limit) m ≡ pushed limit v b
  unfolding pushed is_digit
  push_up_to n m q e f = let z : m ≡ 10 * v + (b - 48) = omega arith in rw (z, ← p, q) (by (leb (10 * v + (b - 48)) limit))
    where
      by : (t : Bool) → then_some t (10 * v + (b - 48)) ≡ cond t (Some (10 * v + (b - 48))) None
      by true = refl
      by false = refl

  pub push_no_digit : r ≡ false → None ≡ pushed limit v b
  unfolding pushed is_digit
  push_no_digit q = simp (sym p ∙ q)

-- the loop of `read_decimal`: v is the value of the digits passed
pub record Reading (limit : ℕ) (s : List ℕ) (v i : ℕ) : Type 0 where
  pub within_limit : v ≤ limit
  pub rest : read_from limit v (drop i s) ≡ read_from limit 0 s

pub reading_start : (limit : ℕ) (s : List ℕ) → Reading limit s 0 0
reading_start limit s = record { within_limit = omega arith; rest = refl }

nonempty : (limit : ℕ) (s : List ℕ) → (length s ≡ 0 → ⊥) → read_from limit 0 s ≡ read_decimal limit s
unfolding read_from read_decimal is_decimal decimal
nonempty limit [] h = absurd (h refl)
nonempty limit (b ∷ s) h = simp (le-leb 1 (suc (length s)) (omega arith))

module _ (limit : ℕ) (s : List ℕ) (v i : ℕ) (inv : Reading limit s v i) where
  module _ (h : i < length s) (r : Option ℕ) (p : r ≡ pushed limit v (get_or s i 0)) where
    pub reading_next : (n : ℕ) → r ≡ Some n → Reading limit s n (i + 1)
    reading_next n q =
        let e = pushed_value limit v (get_or s i 0) n (sym p ∙ q) in
        record {
          within_limit = e.1;
          rest = rw (add-one, e.0) (sym (from_cons limit v (get_or s i 0) (drop (suc i) s) (sym p ∙ q ∙ ap Some e.0)) ∙ rw (← drop-cons s i 0 h) inv.rest);
        }

    pub reading_bad : (length s ≡ 0 → ⊥) → r ≡ None → None ≡ read_decimal limit s
    reading_bad z q =
        sym (from_bad limit v (get_or s i 0) (drop (suc i) s) (sym p ∙ q)) ∙ rw (← drop-cons s i 0 h) inv.rest ∙ nonempty limit s z

  pub reading_end : length s ≤ i → (length s ≡ 0 → ⊥) → Some v ≡ read_decimal limit s
  reading_end h z = sym (from_end limit v inv.within_limit) ∙ rw (← drop_of_length-le s h) inv.rest ∙ nonempty limit s z

pub decimal_empty : (limit : ℕ) (s : List ℕ) → length s ≡ 0 → None ≡ read_decimal limit s
unfolding read_decimal is_decimal
decimal_empty limit [] h = refl
decimal_empty limit (b ∷ s) h = absurd (omega arith)

-- `read_number`
module _ (limit : ℕ) (s : List ℕ) where
  pub number_zero : 1 < length s → get_or s 0 0 ≡ 48 → None ≡ read_number limit s
  unfolding read_number has_no_leading_zero
  number_zero h e = simp (lt-leb (length s) 1 h, eq-eqb (get_or s 0 0) 48 e)

  module _ (r : Option ℕ) (p : r ≡ read_decimal limit s) where
    pub number_more : 1 < length s → (get_or s 0 0 ≡ 48 → ⊥) → r ≡ read_number limit s
    unfolding read_number has_no_leading_zero
    number_more h e = simp (lt-leb (length s) 1 h, ne_eqb (get_or s 0 0) 48 e) p

    pub number_one : length s ≤ 1 → r ≡ read_number limit s
    unfolding read_number has_no_leading_zero
    number_one h = simp (le-leb (length s) 1 h) p
