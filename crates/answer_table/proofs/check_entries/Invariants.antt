-- `check_entries` meets its contract. The loop's invariant: the check from `at` on, with turns enough, is the whole check, and the marks are those of
-- the entries before it. From the rules of the table.
use Prim.Native.Nat.{◌-◌}
use lib.ListN.{length}
use Rattle.answer_table.specs.Marks.{Covered}
use Rattle.answer_table.proofs.Laws.Rules.{Checking}
use Rattle.answer_table.proofs.check_entries.Given as goal

abbrev pub invariant-loop-at : goal.invariant-loop-at
invariant-loop-at l = Checking l.layout l.table l.at l.count × Covered l.layout l.table l.at l.marks

abbrev pub decreases-loop-at : goal.decreases-loop-at
decreases-loop-at l = length l.table - l.at
