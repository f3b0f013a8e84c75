-- What the check program prints: "It prints number, kind or place (`.` where absent) and both counts on a line, and for 3 and 7 the text or name
-- on a second; an unreadable client or t prints `input`." W-209 amends the house rules: it prints the lifetime "after the counts". "Every printed line, the last too, ends in a newline".
use Rattle.std.specs.Prelude.{ℕ, ◌≡◌, List, [], ◌++◌, length, replicate}
use Rattle.text.specs.Texts.{bytes}
use Rattle.text.specs.Writing.{Writes, overwritten}
use Rattle.text.specs.declared.writing.Writer.{Writer}
use Rattle.address_text.specs.Digits.{in_decimal}
use Rattle.records.specs.Readings.{Optional, absent, present}
use Rattle.rules.specs.declared.Counts.{Counts}
use Rattle.evaluation.specs.Numbers.{Report}
use Rattle.evaluation.specs.Second.{Lent, Handed, Explains}
use Rattle.evaluation.specs.Together.{Given, one_gave, after_fail}
use Rattle.check_input.specs.Input.{InputOutcome, unreadable, evaluates, checked_input}

-- a line and its end
unfoldable pub line : List ℕ → List ℕ
line s = s ++ bytes "\n"

-- "kind or place (`.` where absent)"
unfoldable pub or_dot : Optional ℕ → List ℕ
or_dot absent = bytes "."
or_dot (present n) = in_decimal n

-- a number after a space
unfoldable pub spaced : ℕ → List ℕ
spaced n = bytes " " ++ in_decimal n

-- "both counts", and the lifetime, which ends the line
unfoldable pub counts_text : ℕ → ℕ → ℕ → List ℕ
counts_text lookups voids life = spaced lookups ++ spaced voids ++ spaced life ++ bytes "\n"

-- "number, kind or place .. and both counts on a line"
unfoldable pub report_text : ℕ → List ℕ → ℕ → ℕ → ℕ → List ℕ
report_text number place lookups voids life = in_decimal number ++ bytes " " ++ place ++ counts_text lookups voids life

unfoldable pub report_line : Report → List ℕ
report_line r = report_text r.number (or_dot r.kind_or_place) r.lookups r.voids r.lifetime

-- "for 3 and 7 the text or name on a second"
unfoldable pub second_line : Optional (List ℕ) → List ℕ
second_line absent = []
second_line (present s) = line s

-- what both calls give together
unfoldable pub given_lines : Given → List ℕ
given_lines g = report_line g.report ++ second_line g.bytes

-- "an unreadable client or t prints `input`". W-203 amends the house rules: the program makes both calls and prints what one gave
unfoldable pub lines_of : InputOutcome → List ℕ
lines_of unreadable = line (bytes "input")
lines_of (evaluates o) = given_lines (one_gave o)

-- what an input comes to with a name buffer of 253 bytes and a text buffer of 500, the least that 23 allows
unfoldable pub answered : List ℕ → InputOutcome
answered input = checked_input input (replicate 253 0) (replicate 500 0)

-- all of a text stands at the front of a buffer, and the bytes after it are kept
pub record Stands (xs before after : List ℕ) (n : ℕ) : Type 0 where
  pub size : n ≡ length xs
  pub buffer : after ≡ overwritten xs before

-- what is written after a fail: what the second call hands back, with the counts and the lifetime of the first
pub record WritesAfterFail (a : Lent) (c : Counts) (life : ℕ) (before after : Writer) : Type 0 where
  pub second : Handed
  pub explains : Explains a second
  pub writes : Writes (given_lines (after_fail c life second second.answer)) before after
