-- `received::quoting::put_unescaped` meets its contract. From the laws of Quoting.
use Prim.Native.Nat.{◌-◌}
use mathlib.Core.Path.{◌≡◌}
use lib.ListN.{length}
use Rattle.received.proofs.Laws.Quoting.{Stripped}
use Rattle.received.proofs.quoting.put_unescaped.Given as goal

abbrev pub invariant-loop-i : goal.invariant-loop-i
invariant-loop-i l = record {
  stripped : Stripped l.s l.initial.out.out.now l.initial.out.at l.i l.out.out.now l.out.at;
  same : l.out.out.ghost_name ≡ l.initial.out.out.ghost_name;
}

abbrev pub decreases-loop-i : goal.decreases-loop-i
decreases-loop-i l = length l.s - l.i
