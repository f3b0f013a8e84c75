-- `client_match::item_matches` meets its contract. By the case of the octets.
use Rattle.client_match.proofs.Laws.Addresses.{item_is}
use Rattle.rules.specs.Mechanisms.{item_matches}
use Rattle.text.proofs.Laws.Tests.{ways}
use Rattle.client_match.proofs.item_matches.Goals as goal

pub returns-in_default : goal.returns-in_default
unfolding item_matches
returns-in_default c = search ways

pub returns : goal.returns
unfolding item_matches
returns c = search item_is
