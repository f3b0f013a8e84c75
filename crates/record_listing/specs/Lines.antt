-- What the record printer prints: it "drops one final newline, and prints a header and a line per term: place, name in lower case, sign, argument
-- led by `:` or `=`, IPv4 length, IPv6 length; `.` where the term has none. A refusal prints `refused`, number, `at`, place, and no header."
use Rattle.std.specs.Prelude.{ℕ, ◌-◌, ◌≤◌, ◌≡◌, List, [], ◌∷◌, ◌++◌, map, cond, length, take, eqb, None, Option, Some}
use Rattle.std.specs.Borrow.{Bor}
use Rattle.record_listing.specs.declared.Columns.{Columns}
use Rattle.text.specs.Bytes.{at, lower}
use Rattle.text.specs.Texts.{bytes}
use Rattle.text.specs.Writing.{overwritten, Wrote}
use Rattle.text.specs.declared.writing.Writer.{Writer}
use Rattle.address_text.specs.Digits.{in_decimal}
use Rattle.records.specs.Readings.{Optional, absent, present, Said, Placed}
use Rattle.records.specs.Grammar.{Record}
use Rattle.records.specs.Numbers.{RecordReport, accepted, refused, TermReport, end, term}
use Rattle.records.specs.Answers.{most_bytes, RecordAnswers}

-- "sign"; "`.` where the term has none"
unfoldable pub sign_text : Optional ℕ → List ℕ
sign_text absent = bytes "."
sign_text (present sign) = sign ∷ []

-- "IPv4 length, IPv6 length"
unfoldable pub length_text : Optional ℕ → List ℕ
length_text absent = bytes "."
length_text (present n) = in_decimal n

-- "argument led by `:` or `=`": a mechanism's, which has a sign, by `:`, a modifier's by `=`
unfoldable pub lead : Optional ℕ → ℕ
lead (present sign) = 58
lead absent = 61

unfoldable pub argument_text : Optional ℕ → Optional (List ℕ) → List ℕ
argument_text sign absent = bytes "."
argument_text sign (present a) = lead sign ∷ a

-- "name in lower case, sign, argument .., IPv4 length, IPv6 length"
unfoldable pub columns : List ℕ → Optional ℕ → Optional (List ℕ) → Optional ℕ → Optional ℕ → List ℕ
columns name sign argument four six =
    map lower name ++ (bytes " " ++ sign_text sign) ++ (bytes " " ++ argument_text sign argument) ++ (bytes " " ++ length_text four) ++ (bytes " " ++ length_text six)
    ++ bytes "\n"

unfoldable pub said_line : Said → List ℕ
said_line x = columns x.name x.sign x.argument x.four x.six

-- "a line per term: place, .."
unfoldable pub line_of : Placed → List ℕ
line_of t = in_decimal t.place ++ bytes " " ++ said_line t.said

unfoldable pub lines_of : List Placed → List ℕ
lines_of [] = []
lines_of (t ∷ ts) = line_of t ++ lines_of ts

-- "a header and a line per term"
unfoldable pub listing_of : List Placed → List ℕ
listing_of ts = bytes "at term sign arg four six\n" ++ lines_of ts

-- "A refusal prints `refused`, number, `at`, place"
unfoldable pub refusal_line : ℕ → ℕ → List ℕ
refusal_line number place = bytes "refused " ++ in_decimal number ++ bytes " at " ++ in_decimal place ++ bytes "\n"

-- what is printed of a record, by the productions; it is one text (`prints_one`, proofs/Laws/Printing.antt)
pub data Prints (s : List ℕ) : List ℕ → Type 0 where
  refuses : {number place : ℕ} → RecordAnswers s (refused number place) → Prints s (refusal_line number place)
  lists : {ts : List Placed} → length s ≤ most_bytes → Record s ts → Prints s (listing_of ts)

-- all of it stands at the front of a buffer, n bytes, and the bytes after it are kept
pub record Listed (s before after : List ℕ) (n : ℕ) : Type 0 where
  pub text : List ℕ
  pub prints : Prints s text
  pub size : n ≡ length text
  pub buffer : after ≡ overwritten text before

-- what is printed of a record was written
pub record Shown (s : List ℕ) (before after : Writer) : Type 0 where
  pub text : List ℕ
  pub prints : Prints s text
  pub wrote : Wrote text before.out.now before.at after.out.now after.at

-- what is printed never has more bytes (`prints_length`, proofs/Laws/Room.antt)
abbrev pub room : ℕ
room = 320000

-- "drops one final newline"
unfoldable pub without_newline : List ℕ → List ℕ
without_newline s = cond (eqb (at s (length s - 1)) 10) (take (length s - 1) s) s

-- a record's answer alone, and that of reading a term, for the programs that run cases
unfoldable pub reading_line : RecordReport → List ℕ
reading_line (accepted next) = bytes "accepted " ++ in_decimal next ++ bytes "\n"
reading_line (refused number place) = refusal_line number place

unfoldable pub term_line : TermReport → List ℕ
term_line end = bytes "end\n"
term_line (refused number place) = refusal_line number place
term_line (term next t) = in_decimal t.place ++ bytes " " ++ in_decimal next ++ bytes " " ++ said_line t.said

-- a column as the code has it
abbrev pub column_of : Option ℕ → Optional ℕ
column_of (Some n) = present n
column_of None = absent

abbrev pub argument_of : Option (Bor (List ℕ)) → Optional (List ℕ)
argument_of (Some a) = present a.now
argument_of None = absent

abbrev pub columns_of : Columns → List ℕ
columns_of c = columns c.name.now (column_of c.sign) (argument_of c.argument) (column_of c.four) (column_of c.six)
