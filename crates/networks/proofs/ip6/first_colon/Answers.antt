-- `networks::ip6::first_colon` meets its contract. From the laws of Colons.
use Rattle.networks.proofs.Laws.Colons.{colon_first}
use Rattle.networks.proofs.ip6.first_colon.Goals as goal

pub returns : goal.returns
returns c = search colon_first
