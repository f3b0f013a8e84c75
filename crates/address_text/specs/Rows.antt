-- Numbers in a row, place by place. What the contracts of private functions are said in.
use Rattle.std.specs.Prelude.{ℕ, ◌<◌, ◌≡◌, List, length, get_or}

-- what a call at a place answers is the number there
abbrev pub Gives : (ℕ → ℕ → Type 0) → List ℕ → Type 0
Gives number xs = (i r : ℕ) → i < length xs → number i r → r ≡ get_or xs i 0

-- each number is below a bound
abbrev pub Below : ℕ → List ℕ → Type 0
Below bound xs = (i : ℕ) → i < length xs → get_or xs i 0 < bound
