-- `client_match::look_up` meets its contract. From the laws of Asked.
use Rattle.client_match.proofs.Laws.Asked.{looks_missing, looks_found}
use Rattle.client_match.proofs.look_up.Goals as goal

pub returns-in_default : goal.returns-in_default
returns-in_default c = looks_missing _ _ _ _ _ c.find.ensures.value _ c.in_default.is _ c.put_name.ensures

pub returns : goal.returns
returns c = looks_found _ _ _ _ _ c.find.ensures.value _ _ c.in-Some.is _ c.sooner.ensures
