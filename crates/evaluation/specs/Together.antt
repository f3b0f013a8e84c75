-- Both calls: what they give together is what one call gave; the second never gives 28 for what the first handed out; and the first's answer depends on no
-- entry that only an explanation asks for, but for where the exp argument stands. For any answers that meet what the calls' `ensures` promise
-- (`Evaluates`, `Explains`).
use Rattle.std.specs.Prelude.{ℕ, ◌≤◌, ◌≡◌, List, ◌++◌, true, length, take, None, Option, Some, Ok, Err, Result as Either}
use Rattle.answer_table.specs.Layout.{Entry}
use Rattle.answer_table.specs.Answers.{Encoded, most_bytes}
use Rattle.records.specs.Readings.{Optional, absent, present}
use Rattle.rules.specs.declared.Counts.{Counts}
use Rattle.rules.specs.declared.Wanted.{Wanted}
use Rattle.rules.specs.Tables.{table_of}
use Rattle.rules.specs.Trail.{trail, All, SameAt}
use Rattle.rules.specs.Evaluation.{no_counts, evaluation}
use Rattle.rules.specs.Exp.{ExpAt}
use Rattle.evaluation.specs.declared.Answer.{Answer}
use Rattle.evaluation.specs.declared.Refusal.{Refusal}
use Rattle.evaluation.specs.declared.explaining.Explanation.{Explanation}
use Rattle.evaluation.specs.Numbers.{Report, Outcome, report_of, bytes_of}
use Rattle.evaluation.specs.Evaluating.{has_room, number_of, place_of, evaluated}
use Rattle.evaluation.specs.First as first
use Rattle.evaluation.specs.Second as second

-- a number with its kind or place, counts and lifetime, and what comes with it: a fail's text, or a wanted question's name
pub record Given : Type 0 where
  pub report : Report
  pub bytes : Optional (List ℕ)

-- what one call gave
abbrev pub one_gave : Outcome → Given
one_gave o = record { report = report_of o; bytes = bytes_of o }

abbrev pub given : ℕ → Optional ℕ → Counts → ℕ → Optional (List ℕ) → Given
given number kind_or_place c life s =
    record { report = record { number = number; kind_or_place = kind_or_place; lookups = c.lookups; voids = c.voids; lifetime = life }; bytes = s }

-- a place, as a report has it
abbrev pub optional : Option ℕ → Optional ℕ
optional None = absent
optional (Some p) = present p

-- a refusal: its number, and its place where it has one
abbrev pub refused_by : Refusal → Given
refused_by e = given (number_of e) (optional (place_of e)) no_counts 0 absent

-- the second call after a fail: the same arguments and table, with the domain that the first wrote and the place and length that it answered
abbrev pub following : first.Lent → first.Handed → (n place size : ℕ) → (name text : List ℕ) → second.Lent
following a h n place size name text =
    second.lent a.client (take n h.name) a.sender a.helo a.receiver a.seconds a.table place size name text

-- "number, question or text of the second with the counts of the first", and W-209 adds the first's lifetime; a refusal has none
abbrev pub after_fail : Counts → ℕ → second.Handed → Either Explanation Refusal → Given
after_fail c life k (Ok (Explanation.Text n)) = given 3 absent c life (present (take n k.text))
after_fail c life k (Ok (Explanation.Wanting q)) = given 7 (present q.kind) c life (present (take q.length k.name))
after_fail c life k (Err e) = refused_by e

-- what both calls give: after a fail what the second makes of it, lent the buffers name and text; otherwise what the first gives
pub data BothGive (a : first.Lent) (h : first.Handed) (name text : List ℕ) : Given → Type 0 where
  decided : {value life : ℕ} {c : Counts} → h.answer ≡ Ok (Answer.Decided value c life) → BothGive a h name text (given value absent c life absent)
  wanting : {q : Wanted} {life : ℕ} {c : Counts} → h.answer ≡ Ok (Answer.Wanting q c life)
      → BothGive a h name text (given 7 (present q.kind) c life (present (take q.length h.name)))
  refused : {e : Refusal} → h.answer ≡ Err e → BothGive a h name text (refused_by e)
  failed : {c : Counts} {life n place size : ℕ} {k : second.Handed} → h.answer ≡ Ok (Answer.Fail c life n place size)
      → second.Explains (following a h n place size name text) k → BothGive a h name text (after_fail c life k k.answer)

-- "Together they give what one gave": for all arguments, fitting or not, with any two buffers for the second call that have room
abbrev pub Together : Type 0
Together =
    (a : first.Lent) (h : first.Handed) → first.Evaluates a h → (name text : List ℕ) → has_room name text ≡ true
    → (g : Given) → BothGive a h name text g
    → g ≡ one_gave (evaluated a.client a.domain a.sender a.helo a.receiver a.seconds a.table a.name text)

-- the second never gives 28 for what the first handed out on the same table: it gives the text or a question
pub data Made : Either Explanation Refusal → Type 0 where
  text : {n : ℕ} → Made (Ok (Explanation.Text n))
  question : {q : Wanted} → Made (Ok (Explanation.Wanting q))

abbrev pub Never28 : Type 0
Never28 =
    (a : first.Lent) (h : first.Handed) → first.Evaluates a h → (c : Counts) (life n place size : ℕ) → h.answer ≡ Ok (Answer.Fail c life n place size)
    → (name text : List ℕ) → has_room name text ≡ true → (k : second.Handed) → second.Explains (following a h n place size name text) k → Made k.answer

-- the same call with another table
abbrev pub with_table : first.Lent → List ℕ → first.Lent
with_table a t = first.lent a.client a.domain a.sender a.helo a.receiver a.seconds t a.name

-- two answers over two tables are the same but for where the exp argument stands, which is the same argument
pub data SameAnswer (t u : List ℕ) : Either Answer Refusal → Either Answer Refusal → Type 0 where
  same : {r : Either Answer Refusal} → SameAnswer t u r r
  moved : {c : Counts} {life n p q : ℕ} {d x : List ℕ} → ExpAt t d p x → ExpAt u d q x
      → SameAnswer t u (Ok (Answer.Fail c life n p (length x))) (Ok (Answer.Fail c life n q (length x)))

pub record SameButPlace (t u : List ℕ) (h g : first.Handed) : Type 0 where
  pub answer : SameAnswer t u h.answer g.answer
  pub name : h.name ≡ g.name

-- The first's answer depends only on what its own questions find: two accepted tables that have the same for these, whatever they have for a question that
-- only an explanation asks, have the same answer but for exp's place; and all of it where one table is the other with entries appended.
abbrev pub Unasked : Type 0
Unasked =
    (a : first.Lent) (t u : List ℕ) (es fs : List Entry) → length t ≤ most_bytes → Encoded t es → length u ≤ most_bytes → Encoded u fs
    → All (SameAt (table_of es) (table_of fs)) (trail (table_of es) (evaluation (first.mail_in a) a.domain))
    → (h g : first.Handed) → first.Evaluates (with_table a t) h → first.Evaluates (with_table a u) g
    → SameButPlace t u h g × ((w : List ℕ) → u ≡ t ++ w → h ≡ g)
