-- `address::clear_low` meets its contract. From the laws of Clearing.
use Rattle.address.proofs.Laws.Clearing.{cleared_whole, cleared_shifted}
use Rattle.address.proofs.clear_low.Goals as goal

pub returns-then-n-lt64 : goal.returns-then-n-lt64
returns-then-n-lt64 c = search cleared_shifted

pub returns-else-n-lt64 : goal.returns-else-n-lt64
returns-else-n-lt64 c = search cleared_whole
