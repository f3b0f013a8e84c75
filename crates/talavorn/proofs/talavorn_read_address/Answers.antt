-- `talavorn_read_address` meets its contract. From the laws of Ways.
use Rattle.talavorn.proofs.Laws.Ways.{address_none, address_read}
use Rattle.talavorn.proofs.talavorn_read_address.Goals as goal

pub returns-in_default : goal.returns-in_default
returns-in_default c = search address_none

pub returns : goal.returns
returns c = search address_read
