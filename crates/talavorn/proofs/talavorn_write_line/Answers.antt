-- `talavorn_write_line` meets its contract. From the laws of Ways.
use Rattle.talavorn.proofs.Laws.Ways.{write_no_identity, write_no_client, write_for_client}
use Rattle.talavorn.proofs.talavorn_write_line.Goals as goal

pub returns-in_default : goal.returns-in_default
returns-in_default c = search write_no_identity

pub returns-in_default-from_octets : goal.returns-in_default-from_octets
returns-in_default-from_octets c = search write_no_client

pub returns : goal.returns
returns c = search write_for_client
