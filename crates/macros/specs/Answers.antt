-- What an expansion answers, by the productions. It names no reader.
use Rattle.std.specs.Prelude.{ℕ, ◌≤◌, ◌<◌, ◌≡◌, List, true, false, ◌&&◌, length, Result, Ok, Err}
use Rattle.macros.specs.declared.Form.{Form}
use Rattle.macros.specs.declared.ExpandError.{ExpandError}
use Rattle.macros.specs.declared.ExpandError.TheVariants.{Sender, Host, TooLong, NoMacroString, NoRoom}
use Rattle.macros.specs.Grammar.{Piece, Produces}
use Rattle.macros.specs.Expansion.{Given, letters_of, text_of, is_sender, is_host, is_short}
use Rattle.macros.specs.Numbers.{Outcome, Says}

-- the values that are given pass the tests of 20, 21 and 22
pub record Fit (g : Given) : Type 0 where
  pub sender : is_sender g.sender ≡ true
  pub hosts : (is_host g.helo && is_host g.receiver) ≡ true
  pub short : (is_short g.domain && is_short g.p) ≡ true

-- "Expansion ..: 20, 21, 22, 40, 41"; otherwise the text of the one list of pieces that the productions make
pub data Expands (form : Form) (text : List ℕ) (g : Given) (room : ℕ) : Outcome → Type 0 where
  no_sender : is_sender g.sender ≡ false → Expands form text g room (Err Sender)
  no_host : is_sender g.sender ≡ true → (is_host g.helo && is_host g.receiver) ≡ false → Expands form text g room (Err Host)
  too_long : is_sender g.sender ≡ true → (is_host g.helo && is_host g.receiver) ≡ true → (is_short g.domain && is_short g.p) ≡ false
      → Expands form text g room (Err TooLong)
  outside : Fit g → ((ps : List Piece) → Produces form text ps → ⊥) → Expands form text g room (Err NoMacroString)
  no_room : (ps : List Piece) → Fit g → Produces form text ps → room < length (text_of (letters_of g) ps) → Expands form text g room (Err NoRoom)
  made : (ps : List Piece) → Fit g → Produces form text ps → length (text_of (letters_of g) ps) ≤ room
      → Expands form text g room (Ok (text_of (letters_of g) ps))

-- the answer and the lent buffer afterwards
pub record Answered (form : Form) (text : List ℕ) (g : Given) (r : Result ℕ ExpandError) (before after : List ℕ) : Type 0 where
  pub outcome : Outcome
  pub expands : Expands form text g (length before) outcome
  pub says : Says outcome r before after
