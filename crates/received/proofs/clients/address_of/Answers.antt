-- `received::clients::address_of` meets its contract. From the laws of Reading.
use Rattle.received.proofs.Laws.Reading.{address_six, address_four}
use Rattle.received.proofs.clients.address_of.Goals as goal

pub returns-then-contains : goal.returns-then-contains
returns-then-contains c = search address_six

pub returns-else-contains : goal.returns-else-contains
returns-else-contains c = search address_four
