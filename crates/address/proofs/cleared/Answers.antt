-- `address::cleared` meets its contract. From the laws of Clearing.
use Rattle.address.proofs.Laws.Clearing.{cleared_four, cleared_sixteen}
use Rattle.address.proofs.cleared.Goals as goal

pub returns-in-IPv4 : goal.returns-in-IPv4
returns-in-IPv4 c = search cleared_four

pub returns-in-IPv6 : goal.returns-in-IPv6
returns-in-IPv6 c = search cleared_sixteen
