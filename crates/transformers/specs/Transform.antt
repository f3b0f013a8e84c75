-- A macro's transformers: "Split at the listed delimiters (default dot), reverse for r, keep the right-most parts, join by dots. An upper-case
-- letter escapes all but letters, digits and `-._~`, with upper-case hex."
use Rattle.std.specs.Prelude.{ℕ, ◌+◌, ◌/◌, ◌%◌, List, [], ◌∷◌, ◌++◌, reverse, Bool, true, false, cond, ◌||◌, length, ltb, eqb}
use Rattle.text.specs.Bytes.{is_dot, is_alphanumeric}
use Rattle.text.specs.Decimal.{decimal}
use Rattle.text.specs.Lists.{contains, split, join, rightmost}

-- one of the listed delimiters; the dot where none is listed
unfoldable pub is_listed : List ℕ → ℕ → Bool
is_listed ds b = cond (eqb (length ds) 0) (is_dot b) (contains ds b)

-- the parts in reverse for r
unfoldable pub reversed_if : Bool → List (List ℕ) → List (List ℕ)
reversed_if true xs = reverse xs
reversed_if false xs = xs

-- the right-most parts, as many as the digits say: "a value over the part count takes all parts"; without digits all stay
unfoldable pub kept : List ℕ → List (List ℕ) → List (List ℕ)
kept digits xs = cond (eqb (length digits) 0) xs (rightmost (decimal digits) xs)

-- letters, digits and `-._~`
unfoldable pub is_unreserved : ℕ → Bool
is_unreserved b = is_alphanumeric b || (eqb b 45 || (eqb b 46 || (eqb b 95 || eqb b 126)))

-- an upper-case hex digit
unfoldable pub hex_digit : ℕ → ℕ
hex_digit n = cond (ltb n 10) (48 + n) (55 + n)

-- one byte, escaped where that is asked
unfoldable pub escaped_byte : Bool → ℕ → List ℕ
escaped_byte false b = b ∷ []
escaped_byte true b = cond (is_unreserved b) (b ∷ []) (37 ∷ hex_digit (b / 16) ∷ hex_digit (b % 16) ∷ [])

-- a text, escaped where that is asked
unfoldable pub escaped : Bool → List ℕ → List ℕ
escaped escape [] = []
escaped escape (b ∷ s) = escaped_byte escape b ++ escaped escape s

-- what a macro makes of a value: the digits, whether r stands, the delimiters, and whether the letter is in upper case
unfoldable pub transformed : List ℕ → Bool → List ℕ → Bool → List ℕ → List ℕ
transformed digits reversed delimiters escape value =
    escaped escape (join (kept digits (reversed_if reversed (split (is_listed delimiters) value))))
