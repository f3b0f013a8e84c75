-- For private functions: what is printed, as the code finds it; the laws tie it to the productions.
use Rattle.std.specs.Prelude.{ℕ, List, ◌++◌, Bool, cond, ◌&&◌, length, take, eqb, leb, None, Option, Some, Result, Ok, Err}
use Rattle.text.specs.Fields.{after_fields, field}
use Rattle.text.specs.Lists.{same}
use Rattle.text.specs.Texts.{bytes}
use Rattle.networks.specs.Reader6.{read_address}
use Rattle.received.specs.Quoting.{unescaped}
use Rattle.received.specs.Numbers.{error_number, Outcome}
use Rattle.received.specs.Answers.{Given, given, most_line}
use Rattle.received.specs.RoundTrip.{bytes_at}
use Rattle.received.specs.Texts.{word_of, outcome}
use Rattle.received.specs.Reader.{number_of, line_answer}
use Rattle.received.specs.declared.Identity.TheVariants.{MailFrom, Helo}
use Rattle.received.specs.declared.Parts.{Parts}
use Rattle.received.specs.declared.LineError.{LineError}
use Rattle.line_input.specs.Lines.{line, refusal_line, most_input}
use Rattle.address.specs.declared.Address.{Address}
use Rattle.received.specs.declared.Identity.{Identity}

unfoldable pub opens : List ℕ → Bool
opens input = same (take 13 input) (bytes "Received-SPF:")

unfoldable pub has_six_lines : List ℕ → Bool
has_six_lines input = leb (length input) most_input && eqb (length (after_fields 10 6 input)) 0

unfoldable pub identity_named : List ℕ → Option Identity
identity_named w = cond (same w (bytes "mailfrom")) (Some MailFrom) (cond (same w (bytes "helo")) (Some Helo) None)

-- a line read back
unfoldable pub part_lines : List ℕ → Parts → List ℕ
part_lines s f =
    line (word_of f.result) ++ (line (unescaped (bytes_at s f.client)) ++ (line (unescaped (bytes_at s f.sender))
    ++ (line (unescaped (bytes_at s f.helo)) ++ (line (unescaped (bytes_at s f.receiver)) ++ line (unescaped (bytes_at s f.identity))))))

unfoldable pub answer_lines : List ℕ → Result Parts LineError → List ℕ
answer_lines s (Ok f) = part_lines s f
answer_lines s (Err e) = refusal_line (error_number e)

unfoldable pub read_text : List ℕ → List ℕ
read_text s = answer_lines s (line_answer s)

-- a line written
unfoldable pub outcome_text : Outcome → List ℕ
outcome_text (Ok xs) = xs
outcome_text (Err e) = refusal_line (error_number e)

unfoldable pub written_text : Given → List ℕ
written_text g = outcome_text (outcome g most_line)

unfoldable pub named_text : ℕ → Option Address → Option Identity → (sender helo receiver : List ℕ) → List ℕ
named_text n None i sender helo receiver = line (bytes "input")
named_text n (Some a) None sender helo receiver = line (bytes "input")
named_text n (Some a) (Some i) sender helo receiver = written_text (given n a sender helo receiver i)

unfoldable pub lines_text : (result client sender helo receiver identity : List ℕ) → List ℕ
lines_text result client sender helo receiver identity =
    cond (leb 7 (number_of result)) (line (bytes "input")) (named_text (number_of result) (read_address client) (identity_named identity) sender helo receiver)

unfoldable pub printed : List ℕ → List ℕ
printed input =
    cond (opens input) (read_text input)
    (cond (has_six_lines input)
    (lines_text (field 10 0 input) (field 10 1 input) (field 10 2 input) (field 10 3 input) (field 10 4 input) (field 10 5 input))
    (line (bytes "input")))
