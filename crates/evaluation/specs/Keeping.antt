-- How long the first call's decision may be kept. W-209 amends the house rules: "the first call's result, 7 included, the smallest among the entries it
-- consulted, or 0 if none".
use Rattle.std.specs.Prelude.{ℕ, ◌≤◌, List, length, Ok, Err, Result as Either}
use Rattle.answer_table.specs.Layout.{Entry}
use Rattle.answer_table.specs.Answers.{Encoded, most_bytes}
use Rattle.rules.specs.Tables.{table_of}
use Rattle.rules.specs.Trail.{trail}
use Rattle.rules.specs.Lifetimes.{lifetimes, Smallest}
use Rattle.rules.specs.Evaluation.{evaluation}
use Rattle.evaluation.specs.declared.Answer.{Answer}
use Rattle.evaluation.specs.declared.Refusal.{Refusal}
use Rattle.evaluation.specs.First.{Lent, Handed, mail_in, Fit, Evaluates}

-- the lifetime that an answer carries; refusals have 0, as their counts
unfoldable pub lifetime_in : Either Answer Refusal → ℕ
lifetime_in (Ok (Answer.Decided value c life)) = life
lifetime_in (Ok (Answer.Fail c life n place size)) = life
lifetime_in (Ok (Answer.Wanting question c life)) = life
lifetime_in (Err e) = 0

-- For all arguments that fit and every accepted table, whatever `evaluate` hands back: its lifetime is the smallest of the entries that the evaluation's
-- questions found. A question that is missing found none, an explanation's are not among them, and no question is for an entry of kind 99.
abbrev pub KeptFor : Type 0
KeptFor =
    (a : Lent) (h : Handed) → Evaluates a h → Fit a → (es : List Entry) → length a.table ≤ most_bytes → Encoded a.table es
    → Smallest (lifetimes (table_of es) (trail (table_of es) (evaluation (mail_in a) a.domain))) (lifetime_in h.answer)
