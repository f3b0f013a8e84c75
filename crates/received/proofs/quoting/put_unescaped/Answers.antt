-- `received::quoting::put_unescaped` meets its contract. From the laws of Quoting.
use Rattle.received.proofs.Laws.Quoting.{stripped_start, stripped_next, stripped_end}
use Rattle.received.proofs.quoting.put_unescaped.Goals as goal

pub loop-i-init : goal.loop-i-init
loop-i-init c = search stripped_start

pub loop-i-preserved : goal.loop-i-preserved
loop-i-preserved c = search stripped_next

pub returns : goal.returns
returns c = search stripped_end
