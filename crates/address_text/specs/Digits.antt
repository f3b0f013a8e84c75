-- Numbers as text.
use Rattle.std.specs.Prelude.{ℕ, zero, suc, ◌+◌, ◌/◌, ◌%◌, List, [], ◌∷◌, ◌++◌, cond, ltb}

-- the digit of a number below 16, in lower case
unfoldable pub digit : ℕ → ℕ
digit n = cond (ltb n 10) (48 + n) (87 + n)

-- a number in a base, without leading zeros, of at most f + 1 digits
unfoldable pub numeral : ℕ → ℕ → ℕ → List ℕ
numeral zero base n = digit n ∷ []
numeral (suc f) base n = cond (ltb n base) (digit n ∷ []) (numeral f base (n / base) ++ (digit (n % base) ∷ []))

-- in decimal, such as "t seconds in decimal": the 20 digits of the largest u64 are enough
unfoldable pub in_decimal : ℕ → List ℕ
in_decimal n = numeral 19 10 n

-- in hex: 4 digits are enough for a group of an IPv6 address
unfoldable pub in_hex : ℕ → List ℕ
in_hex n = numeral 3 16 n
