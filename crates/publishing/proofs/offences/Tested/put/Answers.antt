-- `publishing::offences::Tested::put` meets its contract. From the laws of Walking.
use Rattle.publishing.proofs.Laws.Walking.{ruling_start, ruling_next, ruling_end}
use Rattle.publishing.proofs.offences.Tested.put.Goals as goal

pub loop-rule-init : goal.loop-rule-init
loop-rule-init c = search ruling_start

pub loop-rule-preserved : goal.loop-rule-preserved
loop-rule-preserved c = search ruling_next

pub returns : goal.returns
returns c = search ruling_end
