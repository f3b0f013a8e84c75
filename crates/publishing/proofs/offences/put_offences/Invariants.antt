-- `publishing::offences::put_offences` meets its contract. From the laws of Walking.
use Prim.Native.Nat.{◌-◌}
use lib.ListN.{length}
use Rattle.publishing.proofs.Laws.Walking.{Offended}
use Rattle.publishing.proofs.offences.put_offences.Given as goal

abbrev pub invariant-loop-at : goal.invariant-loop-at
invariant-loop-at l = Offended l.s l.first l.whole l.marks l.initial.out l.i l.seen l.out

abbrev pub decreases-loop-at : goal.decreases-loop-at
decreases-loop-at l = length l.s - l.i
