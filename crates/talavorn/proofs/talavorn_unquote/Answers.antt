-- `talavorn_unquote` meets its contract. From the laws of Ways.
use Rattle.talavorn.proofs.Laws.Ways.{part_unquoted}
use Rattle.talavorn.proofs.talavorn_unquote.Goals as goal

pub returns : goal.returns
returns c = search part_unquoted
