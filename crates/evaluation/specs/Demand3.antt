-- Demand 3 as one statement about the calls read_record, read_term, argument and evaluate: for any answers that meet what their `ensures` promise
-- (`ReadsRecord`, `ReadsTerm`, `ReadsArgument`, `Evaluates`). The promises determine the answers, so no reader is named. W-203 amends the house rules: "In
-- demand 3 .. evaluation means the first call."
use Rattle.std.specs.Prelude.{ℕ, ◌≤◌, ◌≡◌, List, length, Ok, Err}
use Rattle.domain.specs.Normal.{normal}
use Rattle.answer_table.specs.Layout.{Entry}
use Rattle.answer_table.specs.Answers.{Encoded, most_bytes}
use Rattle.records.specs.Claim.{Calls, Claim}
use Rattle.records.specs.declared.Refusal.{Refusal}
use Rattle.rules.specs.declared.Counts.{Counts}
use Rattle.rules.specs.Results.{result_permerror}
use Rattle.rules.specs.Evaluation.{no_counts}
use Rattle.rules.specs.Reached.{Selects, Reaches}
use Rattle.evaluation.specs.declared.Answer.{Answer}
use Rattle.rules.specs.Tables.{table_of}
use Rattle.evaluation.specs.First.{Lent, Handed, handed, mail_in, Fit, Evaluates}

-- of any text s, and of any answers of the reading calls for it
pub record Demand3 (s : List ℕ) (calls : Calls s) : Type 0 where
  -- it is accepted as a record exactly when it has at most 4,096 bytes and the productions produce it; it has exactly one reading; and reading the
  -- record and then term after term, each from the last one's next place, gives that reading and then the end
  pub reads : Claim s calls
  -- A text that is refused is never evaluated. For all arguments that fit, every accepted table and whatever `evaluate` hands back then: whichever
  -- check selects the text, the outermost, an include's or a redirect's at any depth, the answer is permerror with the counts k that the evaluation
  -- had just then, with some lifetime, and the buffer is as it was.
  pub never : (e : Refusal) → calls.record_answer ≡ Err e
      → (a : Lent) (h : Handed) → Evaluates a h → Fit a → (es : List Entry) → length a.table ≤ most_bytes → Encoded a.table es
      → (d : List ℕ) (k : Counts) → Reaches (table_of es) (mail_in a) (normal a.domain) no_counts d k → Selects (table_of es) d s
      → (life : ℕ) × (h ≡ handed (Ok (Answer.Decided result_permerror k life)) a.name)
