-- `received::clients::low_on` meets its contract.
use Rattle.std.proofs.Common.{rules}
use Rattle.received.specs.Reader.{low_on}
use Rattle.received.proofs.clients.low_on.Goals as goal

pub returns : goal.returns
unfolding low_on
returns c = search rules
