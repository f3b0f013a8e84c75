-- What the program received_line prints. Its input is six lines: a result's word, the client (written as for ip4 or ip6), the sender, the HELO name, the
-- receiver and the identity. It prints the line that writing gives, or `refused` and the number; `input` where one of the six can't be read. An input
-- that begins with `Received-SPF:` is a line to be read back: its result's word and values are printed, as the same six lines. Only byte 10 ends a line.
use Rattle.std.specs.Prelude.{ℕ, ◌≤◌, ◌≡◌, List, [], ◌++◌, length, take, Ok, Err}
use Rattle.text.specs.Fields.{after_fields, field}
use Rattle.text.specs.Texts.{bytes}
use Rattle.text.specs.Writing.{overwritten}
use Rattle.address_text.specs.Digits.{in_decimal}
use Rattle.networks.specs.Answers.{AddressText}
use Rattle.received.specs.Line.{Word, Values}
use Rattle.received.specs.Numbers.{error_number}
use Rattle.received.specs.Answers.{Given, identity_text, values_of, most_line, Writes, LineFor, ReadsLine}
use Rattle.received.specs.declared.Parts.{Parts}
use Rattle.received.specs.declared.LineError.{LineError}

-- a line and its end
unfoldable pub line : List ℕ → List ℕ
line s = s ++ bytes "\n"

-- `refused` and the number
unfoldable pub refusal_line : ℕ → List ℕ
refusal_line number = bytes "refused " ++ (in_decimal number ++ bytes "\n")

-- a result's word and the values, in the order of the six lines
unfoldable pub six_lines : List ℕ → Values → List ℕ
six_lines word v = line word ++ (line v.client ++ (line v.sender ++ (line v.helo ++ (line v.receiver ++ line v.identity))))

-- an input that is a line to be read
abbrev pub Opens : List ℕ → Type 0
Opens input = take 13 input ≡ bytes "Received-SPF:"

-- six lines, of at most 4,096 bytes together, say what a line is written from; nothing follows them
abbrev pub most_input : ℕ
most_input = 4096

pub record SixLines (input : List ℕ) (g : Given) : Type 0 where
  pub short : length input ≤ most_input
  pub result : Word g.result (field 10 0 input)
  pub client : AddressText (field 10 1 input) g.client
  pub sender : g.sender ≡ field 10 2 input
  pub helo : g.helo ≡ field 10 3 input
  pub receiver : g.receiver ≡ field 10 4 input
  pub identity : identity_text g.identity ≡ field 10 5 input
  pub end : after_fields 10 6 input ≡ []

-- what is printed of an input; it is one text (`prints_one`, proofs/Laws/Printing.antt)
pub data Prints (input : List ℕ) : List ℕ → Type 0 where
  unreadable : (Opens input → ⊥) → ((g : Given) → SixLines input g → ⊥) → Prints input (line (bytes "input"))
  refuses : {g : Given} {e : LineError} → (Opens input → ⊥) → SixLines input g → Writes g most_line (Err e) → Prints input (refusal_line (error_number e))
  writes : {g : Given} {xs : List ℕ} → (Opens input → ⊥) → SixLines input g → Writes g most_line (Ok xs) → Prints input xs
  no_line : {e : LineError} → Opens input → ReadsLine input (Err e) → Prints input (refusal_line (error_number e))
  reads : {g : Given} {f : Parts} {word : List ℕ} → Opens input → LineFor g input f → Word g.result word → Prints input (six_lines word (values_of g))

-- what is printed never has more bytes than a line (`prints_length`, proofs/Laws/Printing.antt)
abbrev pub room : ℕ
room = most_line

-- all of it stands at the front of a buffer, n bytes, and the bytes after it are kept
pub record Printed (input before after : List ℕ) (n : ℕ) : Type 0 where
  pub text : List ℕ
  pub prints : Prints input text
  pub size : n ≡ length text
  pub buffer : after ≡ overwritten text before
