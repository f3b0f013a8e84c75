-- `put_table` meets its contract. The loop's invariant: what was written is the front of the new table, and the rest of it is that of the old one from
-- `at` on. From the rules.
use Prim.Native.Nat.{◌-◌}
use lib.ListN.{length}
use Rattle.old_layout.proofs.Laws.Rules.{Passing}
use Rattle.old_layout.proofs.put_table.Given as goal

abbrev pub invariant-loop-at : goal.invariant-loop-at
invariant-loop-at l = Passing l.old l.initial.out l.out l.at

abbrev pub decreases-loop-at : goal.decreases-loop-at
decreases-loop-at l = length l.old - l.at
