-- `check_host::read_input` meets its contract. From the laws of Chunks.
use Rattle.check_host.proofs.Laws.Chunks.{Holding}
use mathlib.Core.Path.{◌≡◌}
use lib.ListN.{length}
use Rattle.check_host.proofs.read_input.Given as goal

abbrev pub invariant-loop : goal.invariant-loop
invariant-loop g l = Holding l.initial.held l.held l.n × (length l.chunk ≡ 65536)
