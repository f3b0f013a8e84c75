-- The numbers that a call hands back for an answer: first the one that is returned, then those of the lent array, in their order.
use Rattle.std.specs.Prelude.{ℕ, ◌+◌, ◌-◌, ◌≤◌, List, [], ◌∷◌, cond, eqb, None, Option, Some, Result, Ok, Err}
use Rattle.address.specs.declared.Address.{Address}
use Rattle.address.specs.declared.Address.TheVariants.{IPv4, IPv6}
use Rattle.address.specs.Octets.{octets}
use Rattle.address.specs.Matching.{matches_at}
use Rattle.answer_table.specs.Numbers.{nowhere, byte, Report as TableReport, accepted as table_accepted, refused as table-refused}
use Rattle.answer_entry.specs.Appending.{Outcome as AppendOutcome, appended, refused as append-refused}
use Rattle.old_layout.specs.Rewriting.{Outcome as AddOutcome, written, refused as add-refused}
use Rattle.macros.specs.declared.Form.{Form}
use Rattle.macros.specs.declared.ExpandError.{ExpandError}
use Rattle.macros.specs.Numbers.{number_of as expand_number}
use Rattle.records.specs.Numbers.{RecordReport, accepted, refused, TermAnswer, number_of as reason_number}
use Rattle.records.specs.declared.Term.{Term}
use Rattle.rules.specs.declared.Counts.{Counts}
use Rattle.evaluation.specs.declared.Answer.{Answer}
use Rattle.evaluation.specs.declared.Refusal.{Refusal}
use Rattle.evaluation.specs.declared.explaining.Explanation.{Explanation}
use Rattle.evaluation.specs.Evaluating.{number_of, place_of}
use Rattle.received.specs.declared.Identity.{Identity}
use Rattle.received.specs.declared.LineError.{LineError}
use Rattle.received.specs.declared.Parts.{Parts}
use Rattle.received.specs.Numbers.{error_number}
use Rattle.publishing.specs.declared.HouseError.{HouseError}
use Rattle.publishing.specs.Listing.{number_of as house_number, place_of as house_place}
use Rattle.talavorn.specs.declared.numbers.Shape.{Shape}

-- what the scope paper has no number for: octets that are neither 4 nor 16, a form that is none, and an identity that is none
abbrev pub no_address : ℕ
no_address = 90

abbrev pub no_form : ℕ
no_form = 91

abbrev pub no_identity : ℕ
no_identity = 92

-- a place, 0 where there is none
abbrev pub or_zero : Option ℕ → ℕ
or_zero None = 0
or_zero (Some p) = p

-- an evaluation: the result's or refusal's number; kind or place; both counts; the lifetime (W-209); the length of the name that was written, a wanted question's or the failing
-- record's domain; the place and length of its exp argument. 0 for what an answer has not
abbrev pub evaluation_row : ℕ → Counts → (life name place size : ℕ) → List ℕ
evaluation_row kind c life name place size = kind ∷ c.lookups ∷ c.voids ∷ life ∷ name ∷ place ∷ size ∷ []

abbrev pub refused_row : ℕ → ℕ → List ℕ
refused_row number place = number ∷ place ∷ 0 ∷ 0 ∷ 0 ∷ 0 ∷ 0 ∷ 0 ∷ []

unfoldable pub encoded : Result Answer Refusal → List ℕ
encoded (Ok (Answer.Decided value c life)) = value ∷ 0 ∷ c.lookups ∷ c.voids ∷ life ∷ 0 ∷ 0 ∷ 0 ∷ []
encoded (Ok (Answer.Fail c life n place size)) = 3 ∷ 0 ∷ c.lookups ∷ c.voids ∷ life ∷ n ∷ place ∷ size ∷ []
encoded (Ok (Answer.Wanting q c life)) = 7 ∷ q.kind ∷ c.lookups ∷ c.voids ∷ life ∷ q.length ∷ 0 ∷ 0 ∷ []
encoded (Err e) = refused_row (number_of e) (or_zero (place_of e))

-- an explanation: 3, 7 or the refusal's number; kind or place; the length of the text or name that was written. 0 for what an answer has not
unfoldable pub encoded_explanation : Result Explanation Refusal → List ℕ
encoded_explanation (Ok (Explanation.Text n)) = 3 ∷ 0 ∷ n ∷ []
encoded_explanation (Ok (Explanation.Wanting q)) = 7 ∷ q.kind ∷ q.length ∷ []
encoded_explanation (Err e) = number_of e ∷ or_zero (place_of e) ∷ 0 ∷ []

-- reading a record: 0; the place just after the version. Or the refusal's number; its place
unfoldable pub record_numbers : RecordReport → List ℕ
record_numbers (accepted next) = 0 ∷ next ∷ []
record_numbers (refused number place) = number ∷ place ∷ []

-- a check of the table: 0; how many entries. Or the refusal's number; its place
unfoldable pub table_numbers : TableReport → List ℕ
table_numbers (table_accepted n) = 0 ∷ n ∷ []
table_numbers (table-refused number nowhere) = number ∷ 0 ∷ []
table_numbers (table-refused number (byte p)) = number ∷ p ∷ []

-- appending an entry: 0; the length of the new table; 0. Or the refusal's number; the length as it was; its place
unfoldable pub appended_numbers : ℕ → AppendOutcome → List ℕ
appended_numbers size (appended n) = 0 ∷ n ∷ 0 ∷ []
appended_numbers size (append-refused number nowhere) = number ∷ size ∷ 0 ∷ []
appended_numbers size (append-refused number (byte p)) = number ∷ size ∷ p ∷ []

-- an expansion: 0; the length. Or the refusal's number; 0
unfoldable pub expanded_numbers : Result ℕ ExpandError → List ℕ
expanded_numbers (Ok n) = 0 ∷ n ∷ []
expanded_numbers (Err e) = expand_number e ∷ 0 ∷ []

-- the form of a number: "told whether it reads a domain-spec or an explanation text"
unfoldable pub form_of : ℕ → Option Form
form_of n = cond (eqb n 0) (Some Form.DomainSpec) (cond (eqb n 1) (Some Form.Explanation) None)

-- a line that is written (W-202), and a part that is unquoted: 0; the length. Or the refusal's number; 0
unfoldable pub written_numbers : Result ℕ LineError → List ℕ
written_numbers (Ok n) = 0 ∷ n ∷ []
written_numbers (Err e) = error_number e ∷ 0 ∷ []

-- the identity of a number: 0 `mailfrom`, 1 `helo`
unfoldable pub identity_for : ℕ → Option Identity
identity_for n = cond (eqb n 0) (Some Identity.MailFrom) (cond (eqb n 1) (Some Identity.Helo) None)

-- a line that is read: 0; the result's number; of each value in the line's order the place of its part and the place after it. Or the refusal's number;
-- eleven times 0
unfoldable pub line_numbers : Result Parts LineError → List ℕ
line_numbers (Ok f) =
    0 ∷ f.result ∷ f.receiver.from ∷ f.receiver.to ∷ f.client.from ∷ f.client.to ∷ f.sender.from ∷ f.sender.to ∷ f.helo.from ∷ f.helo.to
    ∷ f.identity.from ∷ f.identity.to ∷ []
line_numbers (Err e) = error_number e ∷ 0 ∷ 0 ∷ 0 ∷ 0 ∷ 0 ∷ 0 ∷ 0 ∷ 0 ∷ 0 ∷ 0 ∷ 0 ∷ []

-- a record held against the house rules (W-211): 0; how many breaches. Or the refusal's number; its place, 0 where it has none
unfoldable pub house_numbers : Result ℕ HouseError → List ℕ
house_numbers (Ok n) = 0 ∷ n ∷ []
house_numbers (Err e) = house_number e ∷ house_place e ∷ []

-- a table that is rewritten (W-209): 0; the length of the new one. Or the refusal's number; its place, 0 where it has none
unfoldable pub added_numbers : AddOutcome → List ℕ
added_numbers (written n) = 0 ∷ n ∷ []
added_numbers (add-refused number nowhere) = number ∷ 0 ∷ []
added_numbers (add-refused number (byte p)) = number ∷ p ∷ []

-- whether a client matches a network at a prefix length
unfoldable pub match_number : Option Address → Option Address → ℕ → ℕ
match_number (Some a) (Some b) n = cond (matches_at a b n) 1 0
match_number (Some a) None n = no_address
match_number None b n = no_address

-- the octets of an address that was read
unfoldable pub address_octets : Option Address → List ℕ
address_octets (Some a) = octets a
address_octets None = []

-- a term: its kind; its sign, 0 for a modifier; where its argument stands in the term's own text, at the text's end where it has none; its prefix
-- lengths, 0 where it has none
abbrev pub shape : (kind sign from to four six : ℕ) → Shape
shape kind sign from to four six = record { kind = kind; sign = sign; from = from; to = to; four = four; six = six }

unfoldable pub network_shape : (sign from to : ℕ) → Address → ℕ → Shape
network_shape sign from to (IPv4 v) n = shape 6 sign from to n 0
network_shape sign from to (IPv6 h l) n = shape 7 sign from to 0 n

unfoldable pub shape_of : ℕ → Term → Shape
shape_of size (Term.All sign) = shape 1 sign size size 0 0
shape_of size (Term.Include sign from to) = shape 2 sign from to 0 0
shape_of size (Term.A sign from to n m) = shape 3 sign from to n m
shape_of size (Term.Mx sign from to n m) = shape 4 sign from to n m
shape_of size (Term.Ptr sign from to) = shape 5 sign from to 0 0
shape_of size (Term.Network sign from to a n) = network_shape sign from to a n
shape_of size (Term.Exists sign from to) = shape 8 sign from to 0 0
shape_of size (Term.Redirect from to) = shape 9 0 from to 0 0
shape_of size (Term.Explanation from to) = shape 10 0 from to 0 0
shape_of size (Term.Unknown name to) = shape 11 0 (name + 1) to 0 0

-- the argument stands within the term's text, of this size
abbrev pub Inside : ℕ → Term → Type 0
Inside size t = ((shape_of size t).from ≤ (shape_of size t).to) × ((shape_of size t).to ≤ size)

-- the octets of a term's network; none for any other term
unfoldable pub network_of : Term → List ℕ
network_of (Term.Network sign from to a n) = octets a
network_of (Term.All sign) = []
network_of (Term.Include sign from to) = []
network_of (Term.A sign from to n m) = []
network_of (Term.Mx sign from to n m) = []
network_of (Term.Ptr sign from to) = []
network_of (Term.Exists sign from to) = []
network_of (Term.Redirect from to) = []
network_of (Term.Explanation from to) = []
network_of (Term.Unknown name to) = []

-- reading a term: 1; its first byte's place and the next place, kind, sign, where its argument stands in the record, and both lengths. Or 0, the end.
-- Or the refusal's number; its place
abbrev pub term_row : ℕ → ℕ → Shape → List ℕ
term_row at next x = at ∷ next ∷ x.kind ∷ x.sign ∷ (at + x.from) ∷ (at + x.to) ∷ x.four ∷ x.six ∷ []

unfoldable pub term_numbers : TermAnswer → List ℕ
term_numbers (Ok None) = 0 ∷ 0 ∷ 0 ∷ 0 ∷ 0 ∷ 0 ∷ 0 ∷ 0 ∷ 0 ∷ []
term_numbers (Err x) = reason_number x.reason ∷ x.at ∷ 0 ∷ 0 ∷ 0 ∷ 0 ∷ 0 ∷ 0 ∷ 0 ∷ []
term_numbers (Ok (Some t)) = 1 ∷ term_row t.at t.next (shape_of (t.next - t.at) t.term)

-- the octets that reading a term writes
unfoldable pub term_octets : TermAnswer → List ℕ
term_octets (Ok None) = []
term_octets (Err x) = []
term_octets (Ok (Some t)) = network_of t.term
