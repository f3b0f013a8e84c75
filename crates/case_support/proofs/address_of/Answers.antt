-- `case_support::address_of` meets its contract. From the laws of Values.
use Rattle.case_support.proofs.Laws.Values.{address_read}
use Rattle.case_support.proofs.address_of.Goals as goal

pub returns : goal.returns
returns c = search address_read
