-- `put_table` meets its contract. The loop's invariant: what was written is the front of the new table, and the rest of it is that of the old one from
-- `at` on. From the rules.
use Rattle.old_layout.proofs.Laws.Rules.{passing_start, passing_on, passing_end}
use Rattle.old_layout.proofs.put_table.Goals as goal

pub loop-at-init : goal.loop-at-init
loop-at-init c = search passing_start

pub loop-at-preserved : goal.loop-at-preserved
loop-at-preserved c = search passing_on

pub returns : goal.returns
returns c = search passing_end
