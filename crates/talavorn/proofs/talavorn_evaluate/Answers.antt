-- `talavorn_evaluate` meets its contract. From the laws of Ways.
use Rattle.talavorn.proofs.Laws.Ways.{evaluate_no_client, evaluate_for_client}
use Rattle.talavorn.proofs.talavorn_evaluate.Goals as goal

pub returns-in_default : goal.returns-in_default
returns-in_default c = search evaluate_no_client

pub returns : goal.returns
returns c = search evaluate_for_client
