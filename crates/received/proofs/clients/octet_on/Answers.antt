-- `received::clients::octet_on` meets its contract. From the laws of Reading.
use Rattle.received.proofs.Laws.Reading.{octet_is}
use Rattle.received.proofs.clients.octet_on.Goals as goal

pub returns : goal.returns
returns c = search octet_is
