-- `check_host::read_input` meets its contract. From the laws of Chunks.
use Rattle.std.proofs.Common.{rules}
use Rattle.check_host.proofs.Laws.Chunks.{holding_start, holding_on}
use Rattle.check_host.proofs.read_input.Goals as goal

pub loop-init : goal.loop-init
loop-init g c = search (holding_start, rules)

pub loop-preserved : goal.loop-preserved
loop-preserved g c = search (holding_on, rules)
