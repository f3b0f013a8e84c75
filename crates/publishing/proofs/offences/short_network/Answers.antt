-- `publishing::offences::short_network` meets its contract. From the laws of Kinds.
use Rattle.publishing.proofs.Laws.Kinds.{short_four, short_six}
use Rattle.publishing.proofs.offences.short_network.Goals as goal

pub returns-in-IPv4 : goal.returns-in-IPv4
returns-in-IPv4 c = search short_four

pub returns-in-IPv6 : goal.returns-in-IPv6
returns-in-IPv6 c = search short_six
