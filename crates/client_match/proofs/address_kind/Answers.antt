-- `client_match::address_kind` meets its contract. By the family.
use Rattle.rules.specs.Mechanisms.{address_kind}
use Rattle.text.proofs.Laws.Tests.{ways}
use Rattle.client_match.proofs.address_kind.Goals as goal

pub returns-in-IPv4 : goal.returns-in-IPv4
unfolding address_kind
returns-in-IPv4 c = search ways

pub returns-in-IPv6 : goal.returns-in-IPv6
unfolding address_kind
returns-in-IPv6 c = search ways
