-- `records::value_part` meets its contract. From the laws of Checking.
use Rattle.records.proofs.Laws.Checking.{value_none}
use Rattle.records.proofs.value_part.Goals as goal

pub returns : goal.returns
returns c = search value_none
