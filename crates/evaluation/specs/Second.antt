-- The second call: what it is lent and hands back, and what it answers, by the table's list of entries. W-203 amends the house rules: "the second makes
-- the text from these, empty for 0 and 0"; it "gives 3 or 7 with counts of 0"; it "checks in 01's order, then 28 when place and length, not both 0,
-- aren't the exp argument of an accepted record selected for that domain". What is lent determines what is handed back (`second_one`,
-- proofs/Laws/Explaining.antt).
use Rattle.std.specs.Prelude.{ℕ, ◌≤◌, ◌≡◌, List, [], length, None, Ok, Err, Result as Either}
use Rattle.text.specs.Writing.{overwritten}
use Rattle.address.specs.declared.Address.{Address}
use Rattle.domain.specs.Normal.{Naming, normal}
use Rattle.answer_table.specs.Layout.{Entry}
use Rattle.answer_table.specs.declared.TableError.{TableError}
use Rattle.answer_table.specs.Numbers.{reported}
use Rattle.answer_table.specs.Answers.{TableAnswers, Encoded, most_bytes}
use Rattle.records.specs.Readings.{present}
use Rattle.rules.specs.Tree.{Settled, settled, wanting, run}
use Rattle.rules.specs.Tables.{table_of}
use Rattle.rules.specs.Mechanisms.{Mail}
use Rattle.rules.specs.Evaluation.{no_counts, explanation}
use Rattle.rules.specs.Exp.{ExpAt}
use Rattle.rules.specs.Outcomes.{wanted_of, Explained}
use Rattle.evaluation.specs.declared.explaining.Explanation.{Explanation}
use Rattle.evaluation.specs.declared.Refusal.{Refusal}
use Rattle.evaluation.specs.Evaluating.{mail_for, has_room, Refuses, Fits}

-- what the call is lent, in its order: the domain is the failing record's; name and text are the two buffers as they are then
pub record Lent : Type 0 where
  pub client : Address
  pub domain : List ℕ
  pub sender : List ℕ
  pub helo : List ℕ
  pub receiver : List ℕ
  pub seconds : ℕ
  pub table : List ℕ
  pub place : ℕ
  pub size : ℕ
  pub name : List ℕ
  pub text : List ℕ

-- what it hands back: the answer or the refusal, and both buffers as they are afterwards
pub record Handed : Type 0 where
  pub answer : Either Explanation Refusal
  pub name : List ℕ
  pub text : List ℕ

-- the same from their parts, as the contract says it
abbrev pub lent : Address → (domain sender helo receiver : List ℕ) → ℕ → (table : List ℕ) → (place size : ℕ) → (name text : List ℕ) → Lent
lent client domain sender helo receiver seconds table place size name text = record {
  client = client;
  domain = domain;
  sender = sender;
  helo = helo;
  receiver = receiver;
  seconds = seconds;
  table = table;
  place = place;
  size = size;
  name = name;
  text = text;
}

abbrev pub handed : Either Explanation Refusal → (name text : List ℕ) → Handed
handed answer name text = record { answer = answer; name = name; text = text }

-- the mail that its macros are expanded for
abbrev pub mail_in : Lent → Mail
mail_in a = mail_for a.client a.sender a.helo a.receiver a.seconds

-- the arguments pass the tests of 20 to 23
abbrev pub Fit : Lent → Type 0
Fit a = Fits a.domain a.sender a.helo a.receiver (has_room a.name a.text)

-- what the call comes to: refused; the text; or a question that is missing
pub data Outcome : Type 0 where
  refused : Refusal → Outcome
  shows : List ℕ → Outcome
  wants : ℕ → List ℕ → Outcome

-- the answer's case: a text has its length, a wanted question that of its name
unfoldable pub answer_of : Outcome → Either Explanation Refusal
answer_of (refused e) = Err e
answer_of (shows s) = Ok (Explanation.Text (length s))
answer_of (wants kind n) = Ok (Explanation.Wanting (wanted_of kind n))

-- for 7 the name buffer only is written, for 3 the text buffer only, and for refusals neither; "A buffer that is written keeps all bytes after the written
-- length."
unfoldable pub name_after : Outcome → List ℕ → List ℕ
name_after (refused e) before = before
name_after (shows s) before = before
name_after (wants kind n) before = overwritten n before

unfoldable pub text_after : Outcome → List ℕ → List ℕ
text_after (refused e) before = before
text_after (shows s) before = overwritten s before
text_after (wants kind n) before = before

-- the answer and both buffers afterwards
pub record Says (o : Outcome) (r : Either Explanation Refusal) (name name' text text' : List ℕ) : Type 0 where
  pub answer : r ≡ answer_of o
  pub name_buffer_lem : name' ≡ name_after o name
  pub text_buffer_lem : text' ≡ text_after o text

-- what the table settles of an explanation, as an outcome; a missing question has counts of 0, and W-209 gives this call no lifetime
unfoldable pub comes_to : Settled (List ℕ) → Outcome
comes_to (settled s l) = shows s
comes_to (wanting kind n c l) = wants kind n

-- what place and size come to for a domain, over a table t that encodes the entries es: "empty for 0 and 0"; the text or the question, if they are its exp
-- argument; 28 for any other
pub data Judges (t : List ℕ) (es : List Entry) (mail : Mail) (domain : Naming) (place size : ℕ) : Outcome → Type 0 where
  none : place ≡ 0 → size ≡ 0 → Judges t es mail domain place size (shows [])
  argument : {d x : List ℕ} → domain ≡ Naming.name d → ExpAt t d place x → length x ≡ size
      → Judges t es mail domain place size (comes_to (run (table_of es) None (explanation mail d (present x) no_counts)))
  no_argument : (place ≡ 0 → size ≡ 0 → ⊥) → ((d x : List ℕ) → domain ≡ Naming.name d → ExpAt t d place x → length x ≡ size → ⊥)
      → Judges t es mail domain place size (refused Refusal.Exp)

-- "the second call checks in 01's order, then 28"; the domain is taken as any domain of a check: one trailing dot is dropped and A to Z lowered
pub data Answers (a : Lent) : Outcome → Type 0 where
  refuses : {e : Refusal} → Refuses a.domain a.sender a.helo a.receiver (has_room a.name a.text) e → Answers a (refused e)
  bad_table : {e : TableError} → Fit a → TableAnswers a.table (reported (Err e)) → Answers a (refused (Refusal.Table e))
  explains : {es : List Entry} {o : Outcome} → Fit a → length a.table ≤ most_bytes → Encoded a.table es
      → Judges a.table es (mail_in a) (normal a.domain) a.place a.size o → Answers a o

-- what `explain` promises of its answer and of both lent buffers afterwards
pub record Explains (a : Lent) (h : Handed) : Type 0 where
  pub outcome : Outcome
  pub answers : Answers a outcome
  pub says : Says outcome h.answer a.name h.name a.text h.text

-- For private functions: the same for a domain and a table's bytes, and the answer of an explanation.
pub record Makes (t : List ℕ) (mail : Mail) (domain : Naming) (place size : ℕ) (r : Either Explanation Refusal) (name name' text text' : List ℕ) : Type 0 where
  pub outcome : Outcome
  pub judges : (es : List Entry) → Encoded t es → Judges t es mail domain place size outcome
  pub says : Says outcome r name name' text text'

unfoldable pub answer_for : Explained → Explanation
answer_for (Ok n) = Explanation.Text n
answer_for (Err w) = Explanation.Wanting w
