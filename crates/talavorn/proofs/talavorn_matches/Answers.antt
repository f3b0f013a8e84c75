-- `talavorn_matches` meets its contract. From the laws of Ways.
use Rattle.talavorn.proofs.Laws.Ways.{match_no_client, match_no_network, match_yes, match_no}
use Rattle.talavorn.proofs.talavorn_matches.Goals as goal

pub returns-in_default : goal.returns-in_default
returns-in_default c = search match_no_client

pub returns-in_default-from_octets : goal.returns-in_default-from_octets
returns-in_default-from_octets c = search match_no_network

pub returns-then-matches : goal.returns-then-matches
returns-then-matches c = search match_yes

pub returns-else-matches : goal.returns-else-matches
returns-else-matches c = search match_no
