-- `macros::scan` meets its contract. From the laws of Reading.
use Rattle.macros.proofs.Laws.Reading.{Scanned}
use Prim.Native.Nat.{◌-◌}
use lib.ListN.{length}
use Rattle.macros.proofs.scan.Given as goal

abbrev pub invariant-loop-at : goal.invariant-loop-at
invariant-loop-at l = Scanned l.form l.text l.at l.expands l.asks

abbrev pub decreases-loop-at : goal.decreases-loop-at
decreases-loop-at l = length l.text - l.at
