-- What the program add_lifetimes prints of an input, W-209: "A program rewrites an old table from standard input with lifetime 0; for 24 to 26, 24
-- also, last, if the new one is too long, it prints only the record printer's refusal line, place 0 for 24." All of the input is the old table, and
-- nothing is printed after the new one. It names no reader.
use Rattle.std.specs.Prelude.{ℕ, ◌≤◌, ◌<◌, ◌≡◌, List, length}
use Rattle.text.specs.Writing.{overwritten}
use Rattle.answer_table.specs.Numbers.{Place, nowhere, byte, accepted, refused}
use Rattle.answer_table.specs.Answers.{most_bytes, TableAnswersIn}
use Rattle.answer_table.specs.declared.Layout.TheVariants.{Old}
use Rattle.answer_table.specs.declared.TableError.{TableError}
use Rattle.answer_table.specs.declared.TableError.TheVariants.{TooLong, Malformed, Repeated}
use Rattle.record_listing.specs.Lines.{refusal_line}
use Rattle.old_layout.specs.Rewriting.{Rewritten}

-- "place 0 for 24"
abbrev pub shown : Place → ℕ
shown nowhere = 0
shown (byte p) = p

-- the line of a table that is refused
abbrev pub error_line : TableError → List ℕ
error_line TooLong = refusal_line 24 0
error_line (Malformed p) = refusal_line 25 p
error_line (Repeated p) = refusal_line 26 p

-- what is printed; it is one text (`prints_one`, proofs/Laws/Printing.antt)
pub data Prints (input : List ℕ) : List ℕ → Type 0 where
  no_table : {n : ℕ} {p : Place} → TableAnswersIn Old input (refused n p) → Prints input (refusal_line n (shown p))
  too_long : {n : ℕ} {new : List ℕ} → TableAnswersIn Old input (accepted n) → Rewritten input new → most_bytes < length new
      → Prints input (refusal_line 24 0)
  rewrites : {n : ℕ} {new : List ℕ} → TableAnswersIn Old input (accepted n) → Rewritten input new → length new ≤ most_bytes → Prints input new

-- all that is printed stands at the front of a buffer, n bytes, and the bytes after it are kept
pub record Printed (input before after : List ℕ) (n : ℕ) : Type 0 where
  pub text : List ℕ
  pub prints : Prints input text
  pub size : n ≡ length text
  pub buffer : after ≡ overwritten text before
