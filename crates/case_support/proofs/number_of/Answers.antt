-- `case_support::number_of` meets its contract. From the laws of Values.
use Rattle.case_support.proofs.Laws.Values.{number_read}
use Rattle.case_support.proofs.number_of.Goals as goal

pub returns : goal.returns
returns c = search number_read
