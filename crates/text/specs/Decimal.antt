-- Numbers in decimal.
use Rattle.std.specs.Prelude.{ℕ, ◌+◌, ◌-◌, ◌*◌, List, [], ◌∷◌, Bool, cond, not, ◌&&◌, ◌||◌, length, leb, eqb, None, Option, Some}
use Rattle.text.specs.Bytes.{at, is_digit}
use Rattle.text.specs.Lists.{all}

-- the value of digits that stand after those of value v
unfoldable pub decimal_from : ℕ → List ℕ → ℕ
decimal_from v [] = v
decimal_from v (d ∷ s) = decimal_from (10 * v + (d - 48)) s

-- the value of a text of digits
unfoldable pub decimal : List ℕ → ℕ
decimal s = decimal_from 0 s

-- 1*DIGIT
unfoldable pub is_decimal : List ℕ → Bool
is_decimal s = leb 1 (length s) && all is_digit s

-- a number in decimal with a value up to the limit, the whole text; leading zeros are allowed
unfoldable pub read_decimal : ℕ → List ℕ → Option ℕ
read_decimal limit s = cond (is_decimal s && leb (decimal s) limit) (Some (decimal s)) None

-- one digit more after those of value v, if the value is up to the limit
unfoldable pub pushed : ℕ → ℕ → ℕ → Option ℕ
pushed limit v b = cond (is_digit b && leb (10 * v + (b - 48)) limit) (Some (10 * v + (b - 48))) None

-- no leading zero: one digit, or a first one that isn't 0
unfoldable pub has_no_leading_zero : List ℕ → Bool
has_no_leading_zero s = leb (length s) 1 || not (eqb (at s 0) 48)

-- a number as `read_decimal` reads it, but without a leading zero
unfoldable pub read_number : ℕ → List ℕ → Option ℕ
read_number limit s = cond (has_no_leading_zero s) (read_decimal limit s) None
