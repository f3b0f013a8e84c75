-- `check_entries` meets its contract. The loop's invariant: the check from `at` on, with turns enough, is the whole check, and the marks are those of
-- the entries before it. From the rules of the table.
use Rattle.std.proofs.lemmas.Result.{err_from_is_err_and}
use Rattle.answer_table.proofs.Laws.Covering.{covered_after}
use Rattle.answer_table.proofs.Laws.Rules.{check_start, check_512, check_refused, check_less, check_on, check_done}
use Rattle.answer_table.proofs.check_entries.Goals as goal

pub loop-at-init : goal.loop-at-init
loop-at-init c = (search check_start, c.requires.1)

pub returns-then-count-eq-MOST_ENTRIES : goal.returns-then-count-eq-MOST_ENTRIES
returns-then-count-eq-MOST_ENTRIES c = search check_512

pub loop-at-smaller : goal.loop-at-smaller
loop-at-smaller c = search (check_less, c.in_ok-at.was)

pub loop-at-preserved : goal.loop-at-preserved
loop-at-preserved c = (search (check_on, c.in_ok-at.was), search (covered_after, c.in_ok-at.was))

pub returns-in_err-at : goal.returns-in_err-at
returns-in_err-at c =
    let p = err_from_is_err_and c.from_residual.result c.from_residual.ensures.1 in rw (p.1, p.2) (search (check_refused, c.in_err-at.was))

pub returns : goal.returns
returns c = search check_done
