-- The number of each refusal of an expansion, and what an expansion answers, with the lent buffer afterwards.
use Rattle.std.specs.Prelude.{ℕ, ◌≡◌, List, cond, ◌&&◌, length, leb, Result, Ok, Err}
use Rattle.text.specs.Writing.{overwritten}
use Rattle.macros.specs.declared.Form.{Form}
use Rattle.macros.specs.declared.ExpandError.{ExpandError}
use Rattle.macros.specs.declared.ExpandError.TheVariants.{Sender, Host, TooLong, NoMacroString, NoRoom}
use Rattle.macros.specs.Reader.{pieces, is_macro_string}
use Rattle.macros.specs.Expansion.{Given, letters_of, text_of, is_sender, is_host, is_short}

-- "Expansion ..: 20, 21, 22, 40, 41."
abbrev pub number_of : ExpandError → ℕ
number_of Sender = 20
number_of Host = 21
number_of TooLong = 22
number_of NoMacroString = 40
number_of NoRoom = 41

-- the text, or why there is none
abbrev pub Outcome : Type 0
Outcome = Result (List ℕ) ExpandError

-- 41 "expansion doesn't fit the buffer"
unfoldable pub fitted : List ℕ → ℕ → Outcome
fitted xs room = cond (leb (length xs) room) (Ok xs) (Err NoRoom)

-- the tests in their order
unfoldable pub outcome : Form → List ℕ → Given → ℕ → Outcome
outcome form text g room =
    cond (is_sender g.sender)
    (cond (is_host g.helo && is_host g.receiver)
    (cond (is_short g.domain && is_short g.p)
    (cond (is_macro_string form text) (fitted (text_of (letters_of g) (pieces form text).list) room) (Err NoMacroString))
    (Err TooLong))
    (Err Host))
    (Err Sender)

-- the answer: the written length
abbrev pub answer_of : Outcome → Result ℕ ExpandError
answer_of (Ok xs) = Ok (length xs)
answer_of (Err e) = Err e

-- "A buffer that is written keeps all bytes after the written length"; refused, "nothing written"
abbrev pub buffer_of : Outcome → List ℕ → List ℕ
buffer_of (Ok xs) before = overwritten xs before
buffer_of (Err e) before = before

-- the answer and the lent buffer together
pub record Says (o : Outcome) (r : Result ℕ ExpandError) (before after : List ℕ) : Type 0 where
  pub answer : r ≡ answer_of o
  pub buffer : after ≡ buffer_of o before
