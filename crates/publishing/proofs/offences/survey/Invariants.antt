-- `publishing::offences::survey` meets its contract. From the laws of Walking.
use Prim.Native.Nat.{◌-◌}
use lib.ListN.{length}
use Rattle.publishing.proofs.Laws.Walking.{Surveyed}
use Rattle.publishing.proofs.offences.survey.Given as goal

abbrev pub invariant-loop-next : goal.invariant-loop-next
invariant-loop-next l = Surveyed l.s l.first l.initial.table l.i l.seen l.table

abbrev pub decreases-loop-next : goal.decreases-loop-next
decreases-loop-next l = length l.s - l.i
