-- `client_match::width` meets its contract. By the family.
use Rattle.rules.specs.Mechanisms.{width}
use Rattle.text.proofs.Laws.Tests.{ways}
use Rattle.client_match.proofs.width.Goals as goal

pub returns-in-IPv4 : goal.returns-in-IPv4
unfolding width
returns-in-IPv4 c = search ways

pub returns-in-IPv6 : goal.returns-in-IPv6
unfolding width
returns-in-IPv6 c = search ways
