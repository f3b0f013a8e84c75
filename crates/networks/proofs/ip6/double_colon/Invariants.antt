-- `networks::ip6::double_colon` meets its contract. From the laws of Colons.
use Rattle.networks.specs.Reader6.{double_colon}
use mathlib.Core.Path.{◌≡◌}
use lib.ListN.{drop}
use Prim.Native.Nat.{◌+◌}
use Rattle.networks.proofs.ip6.double_colon.Given as goal

abbrev pub invariant-loop-i : goal.invariant-loop-i
invariant-loop-i l = l.i + double_colon (drop l.i l.s) ≡ double_colon l.s
