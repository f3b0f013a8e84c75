-- What each call comes to: the numbers that it hands back, the lent arrays and the lent buffers afterwards.
use Rattle.std.specs.Prelude.{ℕ, ◌+◌, ◌-◌, ◌≡◌, ◌↔◌, List, [], ◌∷◌, map, length, None, Option, Some, Result, Ok, Err}
use Rattle.text.specs.Bytes.{part, lower}
use Rattle.text.specs.Writing.{overwritten}
use Rattle.address.specs.declared.Address.{Address}
use Rattle.address.specs.Matching.{Matches}
use Rattle.networks.specs.Reader6.{read_address}
use Rattle.networks.specs.Answers.{NetworkAnswer, AddressText}
use Rattle.answer_table.specs.Numbers.{reported as table-reported}
use Rattle.answer_table.specs.Reader.{check_table}
use Rattle.answer_table.specs.Answers.{TableAnswers}
use Rattle.answer_entry.specs.Appending.{Outcome as AppendOutcome, Appends}
use Rattle.old_layout.specs.Rewriting.{Outcome as AddOutcome, Rewrites}
use Rattle.macros.specs.declared.Form.{Form}
use Rattle.macros.specs.Expansion.{Given}
use Rattle.macros.specs.Numbers.{Outcome as Expansion, answer_of as expandedOf, buffer_of}
use Rattle.macros.specs.Answers.{Expands}
use Rattle.records.specs.Readings.{argument_bytes}
use Rattle.records.specs.Numbers.{TermAnswer, record_report, said_of, term_report}
use Rattle.records.specs.Answers.{RecordAnswers, TermAnswers}
use Rattle.records.specs.Beginnings.{pointed_term, pointed_record}
use Rattle.received.specs.Numbers.{Outcome as Line, answer_of as written_of, buffer_of as lineBuffer}
use Rattle.received.specs.Answers.{Given as LineGiven, Writes, ReadsLine, Unquotes}
use Rattle.received.specs.declared.Identity.{Identity}
use Rattle.received.specs.declared.LineError.{LineError}
use Rattle.received.specs.declared.Parts.{Parts}
use Rattle.publishing.specs.declared.HouseError.{HouseError}
use Rattle.publishing.specs.Listing.{HouseAnswers}
use Rattle.evaluation.specs.First as first
use Rattle.evaluation.specs.Second as second
use Rattle.talavorn.specs.Numbers.{no_address, no_form, no_identity, refused_row, encoded, encoded_explanation, record_numbers, table_numbers, appended_numbers, expanded_numbers, written_numbers, line_numbers, house_numbers, added_numbers, match_number, address_octets, shape_of, term_numbers, term_octets}

-- an evaluation, by the table's list of entries: octets that are no client's are refused before all else. What is lent determines what is handed back
-- (`first_one`, evaluation/proofs/Laws/Deciding.antt)
pub record EvaluateSays (o : first.Outcome) (numbers name name' : List ℕ) : Type 0 where
  pub answer : numbers ≡ encoded (first.answer_of o)
  pub name_buffer_lem : name' ≡ first.name_after o name

pub data EvaluateAnswers (client : Option Address) (domain sender helo receiver : List ℕ) (seconds : ℕ) (table numbers name name' : List ℕ) : Type 0 where
  no_client : client ≡ None → numbers ≡ refused_row no_address 0 → name' ≡ name
      → EvaluateAnswers client domain sender helo receiver seconds table numbers name name'
  for_client : {a : Address} {o : first.Outcome} → client ≡ Some a → first.Answers (first.lent a domain sender helo receiver seconds table name) o
      → EvaluateSays o numbers name name' → EvaluateAnswers client domain sender helo receiver seconds table numbers name name'

-- an explanation, likewise (`second_one`, evaluation/proofs/Laws/Explaining.antt)
pub record ExplainSays (o : second.Outcome) (numbers name name' text text' : List ℕ) : Type 0 where
  pub answer : numbers ≡ encoded_explanation (second.answer_of o)
  pub name_buffer_lem : name' ≡ second.name_after o name
  pub text_buffer_lem : text' ≡ second.text_after o text

pub data ExplainAnswers (client : Option Address) (domain sender helo receiver : List ℕ) (seconds : ℕ) (table : List ℕ) (place size : ℕ)
    (numbers name name' text text' : List ℕ) : Type 0 where
  no_client : client ≡ None → numbers ≡ (no_address ∷ 0 ∷ 0 ∷ []) → name' ≡ name → text' ≡ text
      → ExplainAnswers client domain sender helo receiver seconds table place size numbers name name' text text'
  for_client : {a : Address} {o : second.Outcome} → client ≡ Some a
      → second.Answers (second.lent a domain sender helo receiver seconds table place size name text) o → ExplainSays o numbers name name' text text'
      → ExplainAnswers client domain sender helo receiver seconds table place size numbers name name' text text'

-- reading a record
pub record RecordSays (s numbers : List ℕ) : Type 0 where
  pub answer : numbers ≡ record_numbers (record_report (pointed_record s))
  pub produced : RecordAnswers s (record_report (pointed_record s))

-- the argument of a term that was read is the part of the record between the two places that are handed back
abbrev pub ArgumentStands : List ℕ → TermAnswer → Type 0
ArgumentStands s (Ok None) = Unit {0}
ArgumentStands s (Err x) = Unit {0}
ArgumentStands s (Ok (Some t)) =
    part s (t.at + (shape_of (t.next - t.at) t.term).from) (t.at + (shape_of (t.next - t.at) t.term).to) ≡ argument_bytes (said_of (part s t.at t.next) t.term)

-- reading one term
pub record TermSays (s : List ℕ) (place : ℕ) (numbers octets octets' : List ℕ) : Type 0 where
  pub answer : numbers ≡ term_numbers (pointed_term s place)
  pub network : octets' ≡ overwritten (term_octets (pointed_term s place)) octets
  pub argument : ArgumentStands s (pointed_term s place)
  pub produced : TermAnswers s place (term_report s (pointed_term s place))

-- a call that writes into a buffer is refused with a number of its own, before all else
pub record Refused (number : ℕ) (numbers before after : List ℕ) : Type 0 where
  pub answer : numbers ≡ (number ∷ 0 ∷ [])
  pub buffer : after ≡ before

-- an expansion: a form that is none and then octets that are no client's are refused before all else
pub record ExpandedSays (o : Expansion) (numbers before after : List ℕ) : Type 0 where
  pub answer : numbers ≡ expanded_numbers (expandedOf o)
  pub buffer : after ≡ buffer_of o before

abbrev pub ExpandSays : Option Form → Option Address → (Form → Address → Expansion) → (numbers before after : List ℕ) → Type 0
ExpandSays None client f = Refused no_form
ExpandSays (Some form) None f = Refused no_address
ExpandSays (Some form) (Some a) f = ExpandedSays (f form a)

-- the same by the productions
pub data ExpandAnswers (form : Option Form) (client : Option Address) (text : List ℕ) (g : Address → Given) (numbers before after : List ℕ) : Type 0 where
  no_kind : form ≡ None → Refused no_form numbers before after → ExpandAnswers form client text g numbers before after
  no_client : {f : Form} → form ≡ Some f → client ≡ None → Refused no_address numbers before after → ExpandAnswers form client text g numbers before after
  for_client : {f : Form} {a : Address} {o : Expansion} → form ≡ Some f → client ≡ Some a → Expands f text (g a) (length before) o
      → ExpandedSays o numbers before after → ExpandAnswers form client text g numbers before after

-- writing a Received-SPF line (W-202): an identity that is none and then octets that are no client's are refused before all else. What is lent determines
-- what is handed back (`writes_one`, received/proofs/Laws/Deciding.antt)
pub record WriteSays (o : Line) (numbers before after : List ℕ) : Type 0 where
  pub answer : numbers ≡ written_numbers (written_of o)
  pub buffer : after ≡ lineBuffer o before

pub data WriteAnswers (identity : Option Identity) (client : Option Address) (g : Address → Identity → LineGiven) (numbers before after : List ℕ) : Type 0 where
  no_kind : identity ≡ None → Refused no_identity numbers before after → WriteAnswers identity client g numbers before after
  no_client : {i : Identity} → identity ≡ Some i → client ≡ None → Refused no_address numbers before after
      → WriteAnswers identity client g numbers before after
  for_client : {i : Identity} {a : Address} {o : Line} → identity ≡ Some i → client ≡ Some a → Writes (g a i) (length before) o
      → WriteSays o numbers before after → WriteAnswers identity client g numbers before after

-- reading it back (`reads_one`)
pub record LineSays (s numbers : List ℕ) : Type 0 where
  pub answer : Result Parts LineError
  pub reads : ReadsLine s answer
  pub numbers_are : numbers ≡ line_numbers answer

-- unquoting one of its parts (`unquotes_one`)
pub record UnquoteAnswers (s numbers before after : List ℕ) : Type 0 where
  pub outcome : Line
  pub answers : Unquotes s (length before) outcome
  pub says : WriteSays outcome numbers before after

-- holding a record with its domain name against the house rules (W-211), into a list (`answers_one`, publishing/proofs/Laws/Deciding.antt)
pub record HouseSays (domain s numbers before after : List ℕ) : Type 0 where
  pub answer : Result ℕ HouseError
  pub answers : HouseAnswers domain s before after answer
  pub numbers_are : numbers ≡ house_numbers answer

-- a match: 1 exactly when two addresses match
pub record MatchSays (client network : Option Address) (bits r : ℕ) : Type 0 where
  pub answer : r ≡ match_number client network bits
  pub matches : (a b : Address) → client ≡ Some a → network ≡ Some b → (r ≡ 1) ↔ Matches a b bits

-- a check of a table
pub record TableSays (t numbers : List ℕ) : Type 0 where
  pub answer : numbers ≡ table_numbers (table-reported (check_table t))
  pub checked : TableAnswers t (table-reported (check_table t))

-- appending an entry, its name in lower case, to a table in a buffer
pub record AppendSays (kind status lifetime : ℕ) (name items table : List ℕ) (size : ℕ) (numbers table' : List ℕ) : Type 0 where
  pub outcome : AppendOutcome
  pub appends : Appends kind status lifetime (map lower name) items table size outcome table'
  pub answer : numbers ≡ appended_numbers size outcome

-- rewriting a table without lifetimes into a buffer (W-209; `rewrites_one`, old_layout/proofs/Laws/Outcomes.antt)
pub record AddSays (old numbers before after : List ℕ) : Type 0 where
  pub outcome : AddOutcome
  pub rewrites : Rewrites old before outcome after
  pub answer : numbers ≡ added_numbers outcome

-- reading an address
pub record AddressSays (s : List ℕ) (r : ℕ) (octets octets' : List ℕ) : Type 0 where
  pub answer : r ≡ length (address_octets (read_address s))
  pub buffer : octets' ≡ overwritten (address_octets (read_address s)) octets
  pub produced : NetworkAnswer (AddressText s) (read_address s)
