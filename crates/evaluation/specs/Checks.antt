-- What the parts of a check answer, for private functions.
use Rattle.std.specs.Prelude.{ℕ, ◌+◌, ◌^◌, ◌≤◌, ◌<◌, ◌≡◌, List, true, false, cond, eqb, length, Option, Some, None, Ok, Err}
use Rattle.text.specs.Texts.{bytes}
use Rattle.address.specs.declared.Address.{Address}
use Rattle.domain.specs.Names.{label_count}
use Rattle.answer_table.specs.Layout.{Entry, kind_txt}
use Rattle.answer_table.specs.Answers.{Encoded}
use Rattle.answer_table.specs.Standing.{ItemAt}
use Rattle.records.specs.Reader.{after_version}
use Rattle.records.specs.Opening.{Passing, argument_in}
use Rattle.records.specs.declared.Term.{Term}
use Rattle.rules.specs.declared.Ending.{Ending}
use Rattle.rules.specs.declared.FailingPlace.{FailingPlace}
use Rattle.text.specs.declared.spans.Span.{Span}
use Rattle.rules.specs.declared.Checked.{Checked}
use Rattle.rules.specs.Tree.{SettlesTo}
use Rattle.rules.specs.Tables.{table_in}
use Rattle.rules.specs.Evaluation.{one, modifier_of, terms_of, record_lookup, no_counts}
use Rattle.rules.specs.Exp.{ExpAt}
use Rattle.rules.specs.Outcomes.{span_of, Matched, ExpStands, FailingIn}

-- a result that no record's sign gives
abbrev pub ended_of : ℕ → Checked
ended_of v = record { value = v; failing = None }

-- the sign of a term; a modifier has none
unfoldable pub sign_of : Term → ℕ
sign_of (Term.All sign) = sign
sign_of (Term.Include sign from to) = sign
sign_of (Term.A sign from to four six) = sign
sign_of (Term.Mx sign from to four six) = sign
sign_of (Term.Ptr sign from to) = sign
sign_of (Term.Network sign from to address length) = sign
sign_of (Term.Exists sign from to) = sign
sign_of (Term.Redirect from to) = 0
sign_of (Term.Explanation from to) = 0
sign_of (Term.Unknown name to) = 0

-- a matching term's result, and for a fail the record that failed
unfoldable pub signed_of : ℕ → FailingPlace → Checked
signed_of sign place =
    cond (eqb sign 43) (ended_of 2)
    (cond (eqb sign 45) (record { value = 3; failing = Some place })
    (cond (eqb sign 126) (ended_of 4) (ended_of 1)))

-- where a modifier's argument stands in the table, by its place in a record that begins at a place of the table
unfoldable pub in_table : Option Span → ℕ → Option Span
in_table None start = None
in_table (Some s) start = Some (record { from = start + s.from; to = start + s.to })

-- these places are numbers of the machine
unfoldable pub FitsTable : Option Span → ℕ → Type 0
FitsTable None start = Unit {0}
FitsTable (Some s) start = (s.from ≤ s.to) × (start + s.to < 2 ^ 63)

-- the record of a domain, which record lookup selected: where both stand in the table
pub record SelectedAt (t : List ℕ) (domain text : Span) : Type 0 where
  pub labels : 1 < label_count (span_of t domain)
  pub short : length (span_of t domain) ≤ 253
  pub selected : SettlesTo (table_in t) (record_lookup (span_of t domain) no_counts) (one (span_of t text))
  pub stands : (es : List Entry) → Encoded t es → ItemAt t kind_txt (span_of t domain) (span_of t text) text.from

-- the terms of that record from a place on are to be tried: all before pass, and its redirect and exp stand at the given places
pub record Underway (client : Address) (t : List ℕ) (place : FailingPlace) (text : Span) (redirect : Option Span) (start : ℕ) : Type 0 where
  pub passing : Passing client (span_of t text) after_version start
  pub redirects : argument_in (span_of t text) redirect ≡ modifier_of (bytes "redirect") (terms_of (span_of t text) after_version)
  pub explains : argument_in t place.exp ≡ modifier_of (bytes "exp") (terms_of (span_of t text) after_version)
  pub failing : FailingIn t place.domain place.exp

-- where the exp argument of a domain's record stands, if it has one
unfoldable pub FindsExp : (t d : List ℕ) → Option Span → Type 0
FindsExp t d None = (p : ℕ) (x : List ℕ) → ExpAt t d p x → ⊥
FindsExp t d (Some s) = ExpStands t d (Some s)

-- a redirect's result: none becomes permerror
unfoldable pub redirected_of : Checked → Checked
redirected_of k = cond (eqb k.value 0) (ended_of 6) k

-- an include's: pass matches; temperror stays; permerror and none give permerror; the others don't match
unfoldable pub included_now : ℕ → Matched
included_now v =
    cond (eqb v 2) (Ok true)
    (cond (eqb v 5) (Err (Ending.Result 5))
    (cond (eqb v 6) (Err (Ending.Result 6))
    (cond (eqb v 0) (Err (Ending.Result 6)) (Ok false))))
