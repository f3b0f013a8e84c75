-- `client_match::sooner` meets its contract. From the laws of Asked.
use Rattle.client_match.proofs.Laws.Asked.{sooner_first, sooner_min}
use Rattle.client_match.proofs.sooner.Goals as goal

pub returns-in-Some : goal.returns-in-Some
returns-in-Some c = search sooner_min

pub returns-in-None : goal.returns-in-None
returns-in-None c = search sooner_first
