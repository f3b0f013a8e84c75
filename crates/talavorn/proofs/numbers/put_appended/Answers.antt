-- `numbers::put_appended` meets its contract. From the laws of Rows.
use Rattle.talavorn.proofs.Laws.Rows.{appended_row}
use Rattle.talavorn.proofs.numbers.put_appended.Goals as goal

pub returns-in-Err : goal.returns-in-Err
returns-in-Err c = appended_row _ _ c.in-Err.is _ _ _ c.put_unappended.ensures
