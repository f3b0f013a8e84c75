-- How long the first call's decision may be kept: the lifetime that it answers is the smallest of the entries that its questions found, or 0 if none. From
-- what the call promises (First) and `life_smallest` of `rules`.
use Rattle.std.proofs.Common.{None}
use Prim.Native.Nat.{ℕ, ◌≤◌}
use mathlib.Core.Path.{◌≡◌, refl, sym, ap, subst, ◌∙◌}
use mathlib.Core.List.{List}
use lib.ListN.{length}
use Rattle.answer_table.specs.Layout.{Entry}
use Rattle.answer_table.specs.Answers.{Encoded, most_bytes}
use Rattle.answer_table.proofs.Laws.Entries.{entries_one}
use Rattle.rules.specs.Tree.{Settled, run}
use Rattle.rules.specs.Tables.{table_of}
use Rattle.rules.specs.Trail.{trail}
use Rattle.rules.specs.Evaluation.{Result, evaluation}
use Rattle.rules.specs.Lifetimes.{lifetimes, Smallest, life_of, seconds}
use Rattle.rules.proofs.Laws.Lifetimes.{life_smallest}
use Rattle.evaluation.specs.First.{Lent, Handed, mail_in, Fit, Outcome, answer_of, Says, Comes, decides, fails, lacks, Answers, refuses, bad_table, evaluates}
use Rattle.evaluation.specs.Keeping.{lifetime_in, KeptFor}
use Rattle.evaluation.proofs.Laws.Refusing.{refuses_fits, table_accepted}

comes_life : {t : List ℕ} {x : Settled Result} {o : Outcome} → Comes t x o → lifetime_in (answer_of o) ≡ seconds (life_of x)
unfolding answer_of life_of lifetime_in
comes_life (decides h) = refl
comes_life (fails h e) = refl
comes_life lacks = refl

-- by the outcome
answers_life : (a : Lent) (h : Handed) → Fit a → (es : List Entry) → length a.table ≤ most_bytes → Encoded a.table es → {o : Outcome} → Answers a o
    → Says o h.answer a.name h.name → lifetime_in h.answer ≡ seconds (life_of (run (table_of es) None (evaluation (mail_in a) a.domain)))
answers_life a h fit es small enc (refuses r) s = absurd (refuses_fits r fit)
answers_life a h fit es small enc (bad_table {e = x} f c) s = absurd (table_accepted x small enc c)
answers_life a h fit es small enc (evaluates f l d c) s =
    ap lifetime_in s.answer ∙ comes_life c
    ∙ ap (λ (ds : List Entry). seconds (life_of (run (table_of ds) None (evaluation (mail_in a) a.domain)))) (entries_one d.entries enc.entries)

pub kept_for : KeptFor
kept_for a h e fit es small enc =
    subst (Smallest (lifetimes (table_of es) (trail (table_of es) (evaluation (mail_in a) a.domain)))) (sym (answers_life a h fit es small enc e.answers e.says))
    (life_smallest (table_of es) (evaluation (mail_in a) a.domain))
