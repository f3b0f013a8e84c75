-- `talavorn_explain` meets its contract. From the laws of Ways.
use Rattle.talavorn.proofs.Laws.Ways.{explain_no_client, explain_for_client}
use Rattle.talavorn.proofs.talavorn_explain.Goals as goal

pub returns-in_default : goal.returns-in_default
returns-in_default c = search explain_no_client

pub returns : goal.returns
returns c = search explain_for_client
