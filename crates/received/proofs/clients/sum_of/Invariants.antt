-- `received::clients::sum_of` meets its contract. From the laws of Folding.
use Rattle.received.specs.States.{fold}
use Rattle.received.specs.Reader.{push_byte, nothing}
use mathlib.Core.Path.{◌≡◌}
use lib.ListN.{drop}
use Rattle.received.proofs.clients.sum_of.Given as goal

abbrev pub invariant-loop-b : goal.invariant-loop-b
invariant-loop-b l = fold (push_byte l.base) l.x (drop l.b-index l.s) ≡ fold (push_byte l.base) nothing l.s
