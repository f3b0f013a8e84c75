-- The number and values of each answer.
use Rattle.std.specs.Prelude.{ℕ, ◌+◌, List, cond, eqb, None, Option, Some, Result, Ok, Err}
use Rattle.address.specs.declared.Address.TheVariants.{IPv4, IPv6}
use Rattle.address.specs.declared.Address.{Address}
use Rattle.text.specs.Bytes.{part}
use Rattle.text.specs.Texts.{bytes}
use Rattle.records.specs.Readings.{Optional, absent, present, Said, Placed, mechanism, hosts, network4, network6, modifier}
use Rattle.records.specs.declared.Term.{Term}
use Rattle.records.specs.declared.Reason.{Reason}
use Rattle.records.specs.declared.Refusal.{Refusal}
use Rattle.records.specs.declared.ReadTerm.{ReadTerm}

-- the number of a refusal
abbrev pub number_of : Reason → ℕ
-- "record over 4,096 bytes"
number_of Reason.TooLong = 30
-- no version at the front
number_of Reason.NoVersion = 31
-- a run of non-spaces that is no term
number_of Reason.Outside = 32
-- a second redirect or exp
number_of Reason.Repeated = 33
-- a place past the record's end
number_of Reason.Beyond = 34

-- a refusal with its place
abbrev pub refusal : Reason → ℕ → Refusal
refusal reason p = record { reason = reason; at = p }

-- what reading a record answers: the place just after the version
abbrev pub RecordAnswer : Type 0
RecordAnswer = Result ℕ Refusal

-- what reading a term answers: the end, or a term
abbrev pub TermAnswer : Type 0
TermAnswer = Result (Option ReadTerm) Refusal

-- a term that was read, with its first byte's place and the next place
abbrev pub term_at : ℕ → ℕ → Term → TermAnswer
term_at at next x = Ok (Some (record { at = at; next = next; term = x }))

-- a refusal by its number and place, or accepted with the place just after the version
pub data RecordReport : Type 0 where
  accepted : ℕ → RecordReport
  refused : ℕ → ℕ → RecordReport

abbrev pub record_report : RecordAnswer → RecordReport
record_report (Ok next) = accepted next
record_report (Err x) = refused (number_of x.reason) x.at

-- the argument of a term: the part of the term's text; absent where the part is empty, which no domain-spec is
abbrev pub optional : List ℕ → ℕ → ℕ → Optional (List ℕ)
optional w from to = cond (eqb from to) absent (present (part w from to))

-- what a term with an address says, by its family
abbrev pub network_said : ℕ → List ℕ → Address → ℕ → Said
network_said sign text (IPv4 v) n = network4 (bytes "ip4") sign text (IPv4 v) n
network_said sign text (IPv6 h l) n = network6 (bytes "ip6") sign text (IPv6 h l) n

-- what a term says, by its case; w is the term's text
unfoldable pub said_of : List ℕ → Term → Said
said_of w (Term.All sign) = mechanism (bytes "all") sign absent
said_of w (Term.Include sign from to) = mechanism (bytes "include") sign (present (part w from to))
said_of w (Term.A sign from to four six) = hosts (bytes "a") sign (optional w from to) four six
said_of w (Term.Mx sign from to four six) = hosts (bytes "mx") sign (optional w from to) four six
said_of w (Term.Ptr sign from to) = mechanism (bytes "ptr") sign (optional w from to)
said_of w (Term.Network sign from to address length) = network_said sign (part w from to) address length
said_of w (Term.Exists sign from to) = mechanism (bytes "exists") sign (present (part w from to))
said_of w (Term.Redirect from to) = modifier (bytes "redirect") (part w from to)
said_of w (Term.Explanation from to) = modifier (bytes "exp") (part w from to)
said_of w (Term.Unknown name to) = modifier (part w 0 name) (part w (name + 1) to)

-- a mechanism's sign; a modifier has none
abbrev pub sign_of : Term → Option ℕ
sign_of (Term.All sign) = Some sign
sign_of (Term.Include sign from to) = Some sign
sign_of (Term.A sign from to four six) = Some sign
sign_of (Term.Mx sign from to four six) = Some sign
sign_of (Term.Ptr sign from to) = Some sign
sign_of (Term.Network sign from to address length) = Some sign
sign_of (Term.Exists sign from to) = Some sign
sign_of (Term.Redirect from to) = None
sign_of (Term.Explanation from to) = None
sign_of (Term.Unknown name to) = None

-- the end; a refusal by its number and place; or a term with the next place
pub data TermReport : Type 0 where
  end : TermReport
  refused : ℕ → ℕ → TermReport
  term : ℕ → Placed → TermReport

abbrev pub term_report : List ℕ → TermAnswer → TermReport
term_report s (Ok None) = end
term_report s (Err x) = refused (number_of x.reason) x.at
term_report s (Ok (Some t)) = term t.next (record { place = t.at; said = said_of (part s t.at t.next) t.term })
