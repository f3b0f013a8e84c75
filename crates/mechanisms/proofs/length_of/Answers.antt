-- `mechanisms::length_of` meets its contract. By the family.
use Rattle.mechanisms.specs.Terms.{length_of}
use Rattle.text.proofs.Laws.Tests.{ways}
use Rattle.mechanisms.proofs.length_of.Goals as goal

pub returns-in-IPv4 : goal.returns-in-IPv4
unfolding length_of
returns-in-IPv4 c = search ways

pub returns-in-IPv6 : goal.returns-in-IPv6
unfolding length_of
returns-in-IPv6 c = search ways
