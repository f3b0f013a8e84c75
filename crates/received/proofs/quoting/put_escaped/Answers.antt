-- `received::quoting::put_escaped` meets its contract. From the laws of Quoting.
use Rattle.received.proofs.Laws.Quoting.{escaping_start, escaping_next, escaping_end}
use Rattle.received.proofs.quoting.put_escaped.Goals as goal

pub loop-b-init : goal.loop-b-init
loop-b-init c = search escaping_start

pub loop-b-preserved : goal.loop-b-preserved
loop-b-preserved c = search escaping_next

pub returns : goal.returns
returns c = search escaping_end
