-- `received::clients::high_on` meets its contract.
use Rattle.std.proofs.Common.{rules}
use Rattle.received.specs.Reader.{high_on}
use Rattle.received.proofs.clients.high_on.Goals as goal

pub returns : goal.returns
unfolding high_on
returns c = search rules
