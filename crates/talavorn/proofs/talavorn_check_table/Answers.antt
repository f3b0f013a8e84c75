-- `talavorn_check_table` meets its contract. From the laws of Ways.
use Rattle.talavorn.proofs.Laws.Ways.{table_says}
use Rattle.talavorn.proofs.talavorn_check_table.Goals as goal

pub returns : goal.returns
returns c = search table_says
