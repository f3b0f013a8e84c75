-- The number of each refusal of the three calls, and what a call that writes comes to, its answer, and the lent buffer afterwards.
use Rattle.std.specs.Prelude.{ℕ, ◌≡◌, List, ◌++◌, length, drop, Result, Ok, Err}
use Rattle.received.specs.declared.LineError.{LineError}
use Rattle.received.specs.declared.LineError.TheVariants.{Sender, Host, NoRoom, NoLine, NoResult}

-- "writing tests 20, 21, 52, 50"; "reading only 51"; "the second call 51, 50"
abbrev pub error_number : LineError → ℕ
error_number Sender = 20
error_number Host = 21
error_number NoRoom = 50
error_number NoLine = 51
error_number NoResult = 52

-- what is written, or why nothing is
abbrev pub Outcome : Type 0
Outcome = Result (List ℕ) LineError

-- the answer: the written length
abbrev pub answer_of : Outcome → Result ℕ LineError
answer_of (Ok xs) = Ok (length xs)
answer_of (Err e) = Err e

-- "A buffer that is written keeps all bytes after the written length"; refused, "nothing written"
abbrev pub buffer_of : Outcome → List ℕ → List ℕ
buffer_of (Ok xs) before = xs ++ drop (length xs) before
buffer_of (Err e) before = before

-- the answer and the lent buffer together
pub record Says (o : Outcome) (r : Result ℕ LineError) (before after : List ℕ) : Type 0 where
  pub answer : r ≡ answer_of o
  pub buffer : after ≡ buffer_of o before
