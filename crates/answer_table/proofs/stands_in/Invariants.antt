-- `stands_in` meets its contract. The loop's invariant: the search from `at` on, with turns enough, is the whole search. From the rules of the table.
use Prim.Native.Nat.{◌-◌}
use lib.ListN.{length}
use Rattle.answer_table.proofs.Laws.Rules.{Search}
use Rattle.answer_table.proofs.stands_in.Given as goal

abbrev pub invariant-loop-at : goal.invariant-loop-at
invariant-loop-at l = Search l.layout l.table l.kind l.name l.at

abbrev pub decreases-loop-at : goal.decreases-loop-at
decreases-loop-at l = length l.table - l.at
