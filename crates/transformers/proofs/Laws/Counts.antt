-- How many parts the digits keep: a count that ends at the largest usize keeps the same parts, since no value has more. From the definitions of
-- Decimal and Transform.
use Prim.Native.Nat.{ℕ, ◌+◌, ◌-◌, ◌*◌, ◌≤◌, ◌<◌, min}
use native.Mathlib.Omega.{arith}
use native.Mathlib.Numerals.{add-one}
use mathlib.Core.Path.{◌≡◌, refl, sym, ◌∙◌}
use mathlib.Core.List.{List, [], ◌∷◌}
use mathlib.Core.Bool.{Bool, true, false, cond}
use lib.ListN.{length, get_or, drop, drop_of_length-le}
use lib.Seq.{drop-cons}
use lib.Dec.{eqb}
use Rattle.text.specs.Decimal.{decimal_from, decimal}
use Rattle.text.specs.Lists.{rightmost}
use Rattle.text.proofs.Laws.Parts.{rightmost_all}
use Rattle.transformers.specs.Transform.{kept}

-- equal up to the largest usize, and so after more digits
from_capped : (s : List ℕ) (a b : ℕ) → min a 18446744073709551615 ≡ min b 18446744073709551615
    → min (decimal_from a s) 18446744073709551615 ≡ min (decimal_from b s) 18446744073709551615
unfolding decimal_from
from_capped [] a b e = e
from_capped (d ∷ s) a b e = from_capped s (10 * a + (d - 48)) (10 * b + (d - 48)) (omega arith)

-- `keep_count`
pub record Counted (digits : List ℕ) (n i : ℕ) : Type 0 where
  pub within : n ≤ 18446744073709551615
  pub rest : min (decimal_from n (drop i digits)) 18446744073709551615 ≡ min (decimal digits) 18446744073709551615

pub counted_start : (digits : List ℕ) → Counted digits 0 0
unfolding decimal
counted_start digits = record { within = omega arith; rest = refl }

module _ (digits : List ℕ) (n i : ℕ) (p : Counted digits n i) where
  pub counted_next : i < length digits → (r : ℕ) → r ≡ min (10 * n + (get_or digits i 0 - 48)) 18446744073709551615 → Counted digits r (i + 1)
  unfolding decimal_from
  counted_next h r e =
      record {
        within = omega arith;
        rest = from_capped (drop (i + 1) digits) r (10 * n + (get_or digits i 0 - 48)) (omega arith) ∙ rw add-one (rw (drop-cons digits i 0 h) at p.rest);
      }

  pub counted_end : length digits ≤ i → n ≡ min (decimal digits) 18446744073709551615
  unfolding decimal_from
  counted_end h = let e : min n 18446744073709551615 ≡ min (decimal digits) 18446744073709551615 = rw (drop_of_length-le digits h) at p.rest in omega (arith, p.within)

-- the parts kept
pub kept_count : (digits : List ℕ) (n : ℕ) → n ≡ cond (eqb (length digits) 0) 18446744073709551615 (min (decimal digits) 18446744073709551615)
    → (xs : List (List ℕ)) → length xs ≤ 18446744073709551615 → kept digits xs ≡ rightmost n xs
unfolding kept rightmost
kept_count digits n e xs h = by (eqb (length digits) 0) e
  where
    by : (t : Bool) → n ≡ cond t 18446744073709551615 (min (decimal digits) 18446744073709551615)
        → cond t xs (drop (length xs - decimal digits) xs) ≡ drop (length xs - n) xs
    by true q = sym (rightmost_all n xs (omega arith))
    by false q = let z : length xs - decimal digits ≡ length xs - n = omega arith in rw z
