-- `talavorn_add_lifetimes` meets its contract. From the laws of Ways.
use Rattle.talavorn.proofs.Laws.Ways.{add_says}
use Rattle.talavorn.proofs.talavorn_add_lifetimes.Goals as goal

pub returns : goal.returns
returns c = search add_says
