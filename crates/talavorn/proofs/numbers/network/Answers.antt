-- `numbers::network` meets its contract. From the laws of Rows.
use Rattle.talavorn.proofs.Laws.Rows.{network_four, network_six}
use Rattle.talavorn.proofs.numbers.network.Goals as goal

pub returns-in-IPv4 : goal.returns-in-IPv4
returns-in-IPv4 c = search network_four

pub returns-in-IPv6 : goal.returns-in-IPv6
returns-in-IPv6 c = search network_six
