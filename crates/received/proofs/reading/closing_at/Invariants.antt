-- `received::reading::closing_at` meets its contract. From the laws of Reading.
use Rattle.received.specs.Reader.{closing_at}
use Prim.Native.Nat.{◌-◌}
use mathlib.Core.Path.{◌≡◌}
use lib.ListN.{length}
use Rattle.received.proofs.reading.closing_at.Given as goal

abbrev pub invariant-loop-q : goal.invariant-loop-q
invariant-loop-q l = closing_at l.s l.q ≡ closing_at l.s l.i

abbrev pub decreases-loop-q : goal.decreases-loop-q
decreases-loop-q l = length l.s - l.q
