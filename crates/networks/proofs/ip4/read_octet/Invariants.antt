-- `networks::ip4::read_octet` meets its contract. The loop's invariant: v is the value of the digits passed, and the digits from i on are the rest of
-- the run. From the laws of Octets and Digits.
use Prim.Native.Nat.{◌-◌}
use lib.ListN.{length}
use Rattle.networks.proofs.Laws.Octets.{Passed}
use Rattle.networks.proofs.ip4.read_octet.Given as goal

abbrev pub invariant-loop-i : goal.invariant-loop-i
invariant-loop-i l = Passed l.s l.at l.v l.i

abbrev pub decreases-loop-i : goal.decreases-loop-i
decreases-loop-i l = length l.s - l.i
