-- What the code's answers say of what a table settles: one definition for each kind of answer, and one for the name buffer. For private functions and
-- between crates: where a domain's name stands is left open up to the bytes that stand there, and of a scratch buffer only the front is said. `evaluate` and `explain` leave nothing open.
use Rattle.std.specs.Prelude.{ℕ, ◌+◌, ◌≤◌, ◌≡◌, List, Bool, true, false, length, take, None, Option, Some, Ok, Err, Result as Outcome}
use Rattle.std.specs.Borrow.{Bor}
use Rattle.text.specs.Bytes.{part}
use Rattle.text.specs.Writing.{overwritten}
use Rattle.text.specs.declared.spans.Span.{Span}
use Rattle.address.specs.declared.Address.{Address}
use Rattle.domain.specs.Normal.{Naming, name, malformed}
use Rattle.answer_table.specs.Layout.{Entry, kind_txt}
use Rattle.answer_table.specs.Reader.{find_at}
use Rattle.answer_table.specs.declared.Found.{Found}
use Rattle.answer_table.specs.Answers.{Encoded}
use Rattle.answer_table.specs.Standing.{ItemAt}
use Rattle.records.specs.Readings.{Optional, absent, present}
use Rattle.records.specs.Opening.{argument_in}
use Rattle.rules.specs.declared.Mail as declared
use Rattle.rules.specs.declared.Counts.{Counts}
use Rattle.rules.specs.declared.Progress.{Progress}
use Rattle.rules.specs.declared.Wanted.{Wanted}
use Rattle.rules.specs.declared.Ending.{Ending}
use Rattle.rules.specs.declared.Selected.{Selected}
use Rattle.rules.specs.declared.LookedUp.{LookedUp}
use Rattle.rules.specs.declared.FailingPlace.{FailingPlace}
use Rattle.rules.specs.declared.Checked.{Checked}
use Rattle.rules.specs.Tree.{Settled, settled, wanting, sooner, Check, run}
use Rattle.rules.specs.Tables.{table_in}
use Rattle.rules.specs.Mechanisms.{Mail, Match, yes, no, stop, Step}
use Rattle.rules.specs.Evaluation.{Failing, failing_at, Result, Selection, ends, one, record_lookup}
use Rattle.rules.specs.Exp.{ExpAt}

-- what a table settles a check to, and the question that it lacks for it, with the counts so far; and the smallest lifetime met
abbrev pub Settles : {A : Type 0} → Settled A → A → Option ℕ → Type 0
Settles x a l = x ≡ settled a l

abbrev pub Lacks : {A : Type 0} → Settled A → ℕ → List ℕ → Counts → Option ℕ → Type 0
Lacks x kind n c l = x ≡ wanting kind n c l

-- what the calls are lent, as the definitions have it
abbrev pub mail_of : Address → (sender helo receiver : List ℕ) → ℕ → Mail
mail_of client sender helo receiver seconds = record { client = client; sender = sender; helo = helo; receiver = receiver; seconds = seconds }

-- the same of a mail that the code passes on
abbrev pub mail_in : declared.Mail → Mail
mail_in m = mail_of m.client m.sender.now m.helo.now m.receiver.now m.seconds

-- the name buffer afterwards: the name of a wanted question at its front and all bytes after it kept; otherwise as it was
unfoldable pub wanted_buffer : {A : Type 0} → Settled A → List ℕ → List ℕ
wanted_buffer (settled a l) before = before
wanted_buffer (wanting kind n c l) before = overwritten n before

-- a question without an entry, as the code hands it on
abbrev pub wanted_of : ℕ → List ℕ → Wanted
wanted_of kind n = record { kind = kind; length = length n }

-- a question asked of the table's bytes t: its entry, whose lifetime is taken in; or none, and it is wanted
pub record FindsEntry (t : List ℕ) (kind : ℕ) (n : List ℕ) (p q : Progress) (f : Found) (before after : List ℕ) : Type 0 where
  pub found : Some f ≡ find_at t kind n
  pub counts_kept : q.counts ≡ p.counts
  pub life : q.life ≡ sooner p.life f.lifetime
  pub name_kept : after ≡ before

pub record FindsNone (t : List ℕ) (kind : ℕ) (n : List ℕ) (p q : Progress) (w : Wanted) (before after : List ℕ) : Type 0 where
  pub missing : None ≡ find_at t kind n
  pub wanted : w ≡ wanted_of kind n
  pub counts_kept : q.counts ≡ p.counts
  pub life_kept : q.life ≡ p.life
  pub name : after ≡ overwritten n before

unfoldable pub LooksUp : (t : List ℕ) → (kind : ℕ) → (n : List ℕ) → (p q : Progress) → Outcome Found Wanted → (before after : List ℕ) → Type 0
LooksUp t kind n p q (Ok f) b a = FindsEntry t kind n p q f b a
LooksUp t kind n p q (Err w) b a = FindsNone t kind n p q w b a

-- nothing was asked
pub record Unchanged (p q : Progress) (before after : List ℕ) : Type 0 where
  pub counts_kept : q.counts ≡ p.counts
  pub life_kept : q.life ≡ p.life
  pub name_kept : after ≡ before

-- what a function that asks hands on: its answer, and the counts and the lifetime after it
pub record After (A : Type 0) : Type 0 where
  pub answer : A
  pub counts : Counts
  pub life : Option ℕ

abbrev pub handed : {A : Type 0} → A → Progress → After A
handed a p = record { answer = a; counts = p.counts; life = p.life }

-- a term: whether it matches, or what ends the check
abbrev pub Matched : Type 0
Matched = Outcome Bool Ending

unfoldable pub matched_of : Match → Matched
matched_of yes = Ok true
matched_of no = Ok false
matched_of (stop v) = Err (Ending.Result v)

abbrev pub step_of : Step → Option ℕ → After Matched
step_of s l = record { answer = matched_of s.match; counts = s.counts; life = l }

unfoldable pub stepped_of : Settled Step → After Matched
stepped_of (settled s l) = step_of s l
stepped_of (wanting kind n c l) = record { answer = Err (Ending.Wanting (wanted_of kind n)); counts = c; life = l }

pub record SaysStep (x : Settled Step) (r : After Matched) (before after : List ℕ) : Type 0 where
  pub outcome : r ≡ stepped_of x
  pub buffer : after ≡ wanted_buffer x before

-- the same of a function that is lent the table's bytes t and what a check has come to so far
abbrev pub Steps : (t : List ℕ) → Check Step → (p q : Progress) → Matched → (before after : List ℕ) → Type 0
Steps t m p q r b a = SaysStep (run (table_in t) p.life m) (handed r q) b a

-- a domain-spec's name, written at the front of a buffer, or that it makes none
abbrev pub Target : Type 0
Target = Outcome (Option ℕ) Wanted

unfoldable pub NamingIs : Naming → Option ℕ → List ℕ → Type 0
NamingIs (name s) r to = (r ≡ Some (length s)) × (take (length s) to ≡ s) × (length s ≤ 253)
NamingIs malformed r to = r ≡ None

unfoldable pub NameIs : Naming → Target → List ℕ → Type 0
NameIs x (Ok r) to = NamingIs x r to
NameIs x (Err w) to = ⊥

-- or a question of p; the counts are those that were handed in
unfoldable pub TargetIs : Counts → Settled Naming → After Target → List ℕ → Type 0
TargetIs c (settled n l) r to = NameIs n r.answer to × (r.counts ≡ c) × (r.life ≡ l)
TargetIs c (wanting kind n e l) r to = (r.answer ≡ Err (wanted_of kind n)) × (e ≡ c) × (r.counts ≡ c) × (r.life ≡ l)

pub record SaysTarget (c : Counts) (x : Settled Naming) (r : After Target) (to before after : List ℕ) : Type 0 where
  pub target : TargetIs c x r to
  pub buffer : after ≡ wanted_buffer x before

abbrev pub Targets : (t : List ℕ) → Check Naming → (p q : Progress) → Target → (to before after : List ℕ) → Type 0
Targets t m p q r to b a = SaysTarget p.counts (run (table_in t) p.life m) (handed r q) to b a

-- the value of p
abbrev pub PFound : Type 0
PFound = Outcome (Bor (List ℕ)) Wanted

unfoldable pub FoundIs : List ℕ → PFound → Type 0
FoundIs s (Ok v) = v.now ≡ s
FoundIs s (Err w) = ⊥

unfoldable pub PIs : Counts → Settled (List ℕ) → After PFound → Type 0
PIs c (settled s l) r = FoundIs s r.answer × (r.counts ≡ c) × (r.life ≡ l)
PIs c (wanting kind n e l) r = (r.answer ≡ Err (wanted_of kind n)) × (e ≡ c) × (r.counts ≡ c) × (r.life ≡ l)

pub record SaysP (c : Counts) (x : Settled (List ℕ)) (r : After PFound) (before after : List ℕ) : Type 0 where
  pub value : PIs c x r
  pub buffer : after ≡ wanted_buffer x before

abbrev pub FindsP : (t : List ℕ) → Check (List ℕ) → (p q : Progress) → PFound → (before after : List ℕ) → Type 0
FindsP t m p q r b a = SaysP p.counts (run (table_in t) p.life m) (handed r q) b a

-- record lookup, for the domain d in the table's bytes t
abbrev pub span_of : List ℕ → Span → List ℕ
span_of t s = part t s.from s.to

-- where the selected text stands, if the table is one: its bytes, and its place by the productions
pub record TextAt (d t : List ℕ) (domain text : Span) (s : List ℕ) : Type 0 where
  pub named : span_of t domain ≡ d
  pub bytes_are : span_of t text ≡ s
  pub stands : (es : List Entry) → Encoded t es → ItemAt t kind_txt d s text.from

unfoldable pub SelectionIs : (d t : List ℕ) → Selection → Selected → Type 0
SelectionIs d t (ends v) r = r ≡ Selected.Ends v
SelectionIs d t (one s) r = (domain text : Span) × (r ≡ Selected.One domain text) × TextAt d t domain text s

unfoldable pub SelectedIs : Counts → (d t : List ℕ) → Settled Selection → LookedUp → Type 0
SelectedIs c d t (settled s l) r = SelectionIs d t s r.selected × (r.life ≡ l)
SelectedIs c d t (wanting kind n e l) r = (r.selected ≡ Selected.Missing) × (kind ≡ kind_txt) × (n ≡ d) × (e ≡ c) × (r.life ≡ l)

-- from any counts, which are only reported
abbrev pub SaysSelection : (d t : List ℕ) → Option ℕ → LookedUp → Type 0
SaysSelection d t l r = (c : Counts) → SelectedIs c d t (run (table_in t) l (record_lookup d c)) r

-- the record that failed
unfoldable pub failing_of : List ℕ → Option FailingPlace → Optional Failing
failing_of t None = absent
failing_of t (Some f) = present (failing_at (span_of t f.domain) (argument_in t f.exp))

-- where its exp stands, if the table is one
unfoldable pub ExpStands : (t d : List ℕ) → Option Span → Type 0
ExpStands t d None = Unit {0}
ExpStands t d (Some s) = (s.to ≤ length t) × (s.from + length (span_of t s) ≡ s.to) × ((es : List Entry) → Encoded t es → ExpAt t d s.from (span_of t s))

pub record FailingIn (t : List ℕ) (domain : Span) (exp : Option Span) : Type 0 where
  pub short : length (span_of t domain) ≤ 253
  pub stands : ExpStands t (span_of t domain) exp

unfoldable pub FailingAt : List ℕ → Option FailingPlace → Type 0
FailingAt t None = Unit {0}
FailingAt t (Some f) = FailingIn t f.domain f.exp

-- a check: its result, or a question without an entry
abbrev pub Ends : Type 0
Ends = Outcome Checked Wanted

abbrev pub ResultIs : List ℕ → Result → Checked → Type 0
ResultIs t r k = (k.value ≡ r.value) × (failing_of t k.failing ≡ r.failing)

unfoldable pub EndsIn : List ℕ → Result → Ends → Type 0
EndsIn t r (Ok k) = ResultIs t r k
EndsIn t r (Err w) = ⊥

unfoldable pub CheckedIs : List ℕ → Settled Result → After Ends → Type 0
CheckedIs t (settled r l) o = EndsIn t r o.answer × (o.counts ≡ r.counts) × (o.life ≡ l)
CheckedIs t (wanting kind n c l) o = (o.answer ≡ Err (wanted_of kind n)) × (o.counts ≡ c) × (o.life ≡ l)

unfoldable pub PlacedAt : List ℕ → Ends → Type 0
PlacedAt t (Ok k) = FailingAt t k.failing
PlacedAt t (Err w) = Unit {0}

pub record SaysCheck (t : List ℕ) (x : Settled Result) (o : After Ends) (before after : List ℕ) : Type 0 where
  pub checked : CheckedIs t x o
  pub placed : PlacedAt t o.answer
  pub buffer : after ≡ wanted_buffer x before

abbrev pub Checks : (t : List ℕ) → Check Result → (p q : Progress) → Ends → (before after : List ℕ) → Type 0
Checks t m p q r b a = SaysCheck t (run (table_in t) p.life m) (handed r q) b a

-- an explanation, written at the front of the text buffer; a question of it has the counts that were handed in, and its lifetime is not answered
abbrev pub Explained : Type 0
Explained = Outcome ℕ Wanted

unfoldable pub ExplainedIs : Counts → Settled (List ℕ) → Explained → Type 0
ExplainedIs c (settled s l) r = r ≡ Ok (length s)
ExplainedIs c (wanting kind n e l) r = (r ≡ Err (wanted_of kind n)) × (e ≡ c)

unfoldable pub text_buffer : Settled (List ℕ) → List ℕ → List ℕ
text_buffer (settled s l) before = overwritten s before
text_buffer (wanting kind n e l) before = before

pub record SaysText (c : Counts) (x : Settled (List ℕ)) (r : Explained) (text text' before after : List ℕ) : Type 0 where
  pub explained : ExplainedIs c x r
  pub text_buffer_lem : text' ≡ text_buffer x text
  pub buffer : after ≡ wanted_buffer x before

abbrev pub Shows : (t : List ℕ) → Check (List ℕ) → (p q : Progress) → Explained → (text text' before after : List ℕ) → Type 0
Shows t m p q r text text' b a = SaysText p.counts (run (table_in t) p.life m) r text text' b a

-- a question that is wanted: its kind, its name's length, and the name buffer
pub record Wants {A : Type 0} (x : Settled A) (kind size : ℕ) (c : Counts) (l : Option ℕ) (before after : List ℕ) : Type 0 where
  pub asked : List ℕ
  pub is : Lacks x kind asked c l
  pub size_is : size ≡ length asked
  pub buffer : after ≡ overwritten asked before

-- a value that is settled, and the name buffer as it was
pub record Gives {A : Type 0} (x : Settled A) (a : A) (l : Option ℕ) (before after : List ℕ) : Type 0 where
  pub is : Settles x a l
  pub kept : after ≡ before
