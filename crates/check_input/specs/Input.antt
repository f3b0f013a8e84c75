-- What an input of the check program means: "The other program reads client (written as for ip4 or ip6), domain, sender, HELO, receiver and t, a line
-- each, then the table."
use Rattle.std.specs.Prelude.{ℕ, List, None, Option, Some}
use Rattle.text.specs.Decimal.{read_decimal}
use Rattle.address.specs.declared.Address.{Address}
use Rattle.networks.specs.Reader6.{read_address}
use Rattle.evaluation.specs.Numbers.{Outcome}
use Rattle.evaluation.specs.Evaluating.{evaluated}
use Rattle.text.specs.Fields.{after_fields, field}

-- what an input comes to: "an unreadable client or t", or what its evaluation comes to
pub data InputOutcome : Type 0 where
  unreadable : InputOutcome
  evaluates : Outcome → InputOutcome

-- "An unreadable client or t wins over 20 to 26."
unfoldable pub on_client_and_time : Option Address → Option ℕ → (Address → ℕ → Outcome) → InputOutcome
on_client_and_time None t f = unreadable
on_client_and_time (Some client) None f = unreadable
on_client_and_time (Some client) (Some t) f = evaluates (f client t)

-- "client (written as for ip4 or ip6)"; t is a number in decimal below 2 ^ 64
unfoldable pub checked_lines : (client domain sender helo receiver seconds table name text : List ℕ) → InputOutcome
checked_lines client domain sender helo receiver seconds table name text =
    on_client_and_time (read_address client) (read_decimal 18446744073709551615 seconds) (λ address t. evaluated address domain sender helo receiver t table name text)

-- "client .., domain, sender, HELO, receiver and t, a line each, then the table"; "Only byte 10 ends a line". A missing line is an empty one.
unfoldable pub checked_input : (input name text : List ℕ) → InputOutcome
checked_input input name text =
    checked_lines (field 10 0 input) (field 10 1 input) (field 10 2 input) (field 10 3 input) (field 10 4 input) (field 10 5 input) (after_fields 10 6 input) name text
