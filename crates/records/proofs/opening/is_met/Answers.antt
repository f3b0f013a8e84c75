-- `records::opening::is_met` meets its contract. From the laws of Noting.
use Rattle.records.proofs.Laws.Noting.{met_by}
use Rattle.records.proofs.opening.is_met.Goals as goal

pub returns : goal.returns
returns c = search met_by
