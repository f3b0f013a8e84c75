-- `received::clients::sum_of` meets its contract. From the laws of Folding and Reading.
use Rattle.received.proofs.Laws.Folding.{fold_next}
use Rattle.received.proofs.Laws.Reading.{sum_end}
use Rattle.received.proofs.clients.sum_of.Goals as goal

pub loop-b-preserved : goal.loop-b-preserved
loop-b-preserved c = search fold_next

pub returns : goal.returns
returns c = search sum_end
