-- `records::terms::lengths_start` meets its contract. From the laws of Reading.
use Rattle.records.proofs.Laws.Reading.{cut_found}
use Rattle.records.proofs.terms.lengths_start.Goals as goal

pub returns : goal.returns
returns c = search cut_found
