-- `networks::ip4::value_of` meets its contract.
use Rattle.std.proofs.Common.{arith}
use Rattle.address.specs.Octets.{value_of, value_from}
use Rattle.networks.proofs.ip4.value_of.Goals as goal

pub returns : goal.returns
unfolding value_of value_from
returns c = omega arith
