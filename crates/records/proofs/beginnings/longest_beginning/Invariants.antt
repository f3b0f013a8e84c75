-- `records::beginnings::longest_beginning` meets its contract: the front up to one place begins a term, and none does from the other on (Laws.Pointing).
use Rattle.records.proofs.Laws.Pointing.{Halving}
use Prim.Native.Nat.{◌-◌}
use Rattle.records.proofs.beginnings.longest_beginning.Given as goal

abbrev pub invariant-loop-begun : goal.invariant-loop-begun
invariant-loop-begun l = Halving l.w l.room l.begun l.beyond

abbrev pub decreases-loop-begun : goal.decreases-loop-begun
decreases-loop-begun l = l.beyond - l.begun
