-- `numbers::put_network` meets its contract. From the laws of Rows.
use Rattle.talavorn.proofs.Laws.Rows.{network_written, no_network}
use Rattle.talavorn.proofs.numbers.put_network.Goals as goal

pub returns-in-Network : goal.returns-in-Network
returns-in-Network c = network_written _ _ _ _ _ _ c.in-Network.is _ _ _ c.put_octets.ensures

pub returns-in_default : goal.returns-in_default
returns-in_default c = search no_network
