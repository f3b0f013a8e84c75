-- The first call: what it is lent and hands back, and what it answers, by the table's list of entries. W-203 amends the house rules: "the first call gives
-- the result and, for fail, the failing record's domain (in the name buffer, as d shows it) and the place and length of its exp argument in the table,
-- or 0 for both where it has none". W-209: "the first call's result, 7 included," gains a lifetime, "the smallest among the entries it consulted, or 0 if none"
-- (`kept_for`, proofs/Laws/Keeping.antt). No reader of the table is named; records and macro strings enter by their readers, which the laws of `records` and
-- `macros` tie to the productions. What is lent determines what is handed back (`first_one`, proofs/Laws/Deciding.antt).
use Rattle.std.specs.Prelude.{ℕ, ◌-◌, ◌≤◌, ◌≡◌, List, length, None, Some, Option, Ok, Err, Result as Either}
use Rattle.text.specs.Writing.{overwritten}
use Rattle.address.specs.declared.Address.{Address}
use Rattle.answer_table.specs.Layout.{Entry}
use Rattle.answer_table.specs.declared.TableError.{TableError}
use Rattle.answer_table.specs.Numbers.{reported}
use Rattle.answer_table.specs.Answers.{TableAnswers, Encoded, most_bytes}
use Rattle.records.specs.Readings.{absent, present}
use Rattle.text.specs.declared.spans.Span.{Span}
use Rattle.rules.specs.declared.Counts.{Counts}
use Rattle.rules.specs.declared.FailingPlace.{FailingPlace}
use Rattle.rules.specs.Tree.{Settled, settled, wanting, Check, run}
use Rattle.rules.specs.Lifetimes.{seconds}
use Rattle.rules.specs.Tables.{table_in, table_of}
use Rattle.rules.specs.Mechanisms.{Mail}
use Rattle.rules.specs.Evaluation.{Failing, Result, evaluation}
use Rattle.rules.specs.Exp.{ExpOf}
use Rattle.rules.specs.Outcomes.{wanted_of, span_of}
use Rattle.evaluation.specs.declared.Answer.{Answer}
use Rattle.evaluation.specs.declared.Refusal.{Refusal}
use Rattle.evaluation.specs.Evaluating.{mail_for, has_name_room, Refuses, Fits}

-- what the call is lent, in its order; name is the buffer as it is then
pub record Lent : Type 0 where
  pub client : Address
  pub domain : List ℕ
  pub sender : List ℕ
  pub helo : List ℕ
  pub receiver : List ℕ
  pub seconds : ℕ
  pub table : List ℕ
  pub name : List ℕ

-- what it hands back: the answer or the refusal, and the buffer as it is afterwards
pub record Handed : Type 0 where
  pub answer : Either Answer Refusal
  pub name : List ℕ

-- the same from their parts, as the contract says it
abbrev pub lent : Address → (domain sender helo receiver : List ℕ) → ℕ → (table name : List ℕ) → Lent
lent client domain sender helo receiver seconds table name =
    record { client = client; domain = domain; sender = sender; helo = helo; receiver = receiver; seconds = seconds; table = table; name = name }

abbrev pub handed : Either Answer Refusal → List ℕ → Handed
handed answer name = record { answer = answer; name = name }

-- the mail that a check is given
abbrev pub mail_in : Lent → Mail
mail_in a = mail_for a.client a.sender a.helo a.receiver a.seconds

-- the arguments pass the tests of 20 to 23
abbrev pub Fit : Lent → Type 0
Fit a = Fits a.domain a.sender a.helo a.receiver (has_name_room a.name)

-- what the call comes to: refused; a result but fail; a fail, with the failing record's domain and its exp argument's place and length; or a question that
-- is missing. The last three with the counts and, after them, the lifetime
pub data Outcome : Type 0 where
  refused : Refusal → Outcome
  decided : ℕ → Counts → ℕ → Outcome
  failed : Counts → ℕ → List ℕ → ℕ → ℕ → Outcome
  wants : ℕ → List ℕ → Counts → ℕ → Outcome

-- the answer's case: a fail has the length of its domain, a wanted question that of its name
unfoldable pub answer_of : Outcome → Either Answer Refusal
answer_of (refused e) = Err e
answer_of (decided value c life) = Ok (Answer.Decided value c life)
answer_of (failed c life d place size) = Ok (Answer.Fail c life (length d) place size)
answer_of (wants kind n c life) = Ok (Answer.Wanting (wanted_of kind n) c life)

-- the name buffer is written for 3 and 7 only; "A buffer that is written keeps all bytes after the written length."; 20 to 26: "nothing written"
unfoldable pub name_after : Outcome → List ℕ → List ℕ
name_after (refused e) before = before
name_after (decided value c life) before = before
name_after (failed c life d place size) before = overwritten d before
name_after (wants kind n c life) before = overwritten n before

-- the answer and the buffer afterwards
pub record Says (o : Outcome) (r : Either Answer Refusal) (name name' : List ℕ) : Type 0 where
  pub answer : r ≡ answer_of o
  pub name_buffer_lem : name' ≡ name_after o name

-- what the table t settles, as an outcome. A fail and nothing else names the record that failed (`evaluation_facts`, rules/proofs/Laws/Verdicts.antt).
pub data Comes (t : List ℕ) : Settled Result → Outcome → Type 0 where
  decides : {r : Result} {l : Option ℕ} → r.failing ≡ absent → Comes t (settled r l) (decided r.value r.counts (seconds l))
  fails : {r : Result} {f : Failing} {l : Option ℕ} {place size : ℕ} → r.failing ≡ present f → ExpOf t f.domain f.exp place size
      → Comes t (settled r l) (failed r.counts (seconds l) f.domain place size)
  lacks : {kind : ℕ} {n : List ℕ} {c : Counts} {l : Option ℕ} → Comes t (wanting kind n c l) (wants kind n c (seconds l))

-- "Evaluation tests 20 to 24 in that order, then whichever of 25 and 26 has the earlier place (25 if equal)"; then the evaluation over the one list
-- of entries that the table encodes. "The first never asks for an explanation's TXT": no explanation is among its questions.
pub data Answers (a : Lent) : Outcome → Type 0 where
  refuses : {e : Refusal} → Refuses a.domain a.sender a.helo a.receiver (has_name_room a.name) e → Answers a (refused e)
  bad_table : {e : TableError} → Fit a → TableAnswers a.table (reported (Err e)) → Answers a (refused (Refusal.Table e))
  evaluates : {es : List Entry} {o : Outcome} → Fit a → length a.table ≤ most_bytes → Encoded a.table es
      → Comes a.table (run (table_of es) None (evaluation (mail_in a) a.domain)) o → Answers a o

-- what `evaluate` promises of its answer and of the lent buffer afterwards
pub record Evaluates (a : Lent) (h : Handed) : Type 0 where
  pub outcome : Outcome
  pub answers : Answers a outcome
  pub says : Says outcome h.answer a.name h.name

-- For private functions: a result with the record that failed, and what the table's bytes settle.
unfoldable pub place_of : Option Span → ℕ
place_of None = 0
place_of (Some s) = s.from

unfoldable pub size_of : Option Span → ℕ
size_of None = 0
size_of (Some s) = s.to - s.from

unfoldable pub finished : List ℕ → ℕ → Counts → ℕ → Option FailingPlace → Outcome
finished t v c life None = decided v c life
finished t v c life (Some f) = failed c life (span_of t f.domain) (place_of f.exp) (size_of f.exp)

pub record Decides (t : List ℕ) (m : Check Result) (r : Either Answer Refusal) (name name' : List ℕ) : Type 0 where
  pub outcome : Outcome
  pub comes : (es : List Entry) → Encoded t es → Comes t (run (table_in t) None m) outcome
  pub says : Says outcome r name name'
