-- `numbers::put_unappended` meets its contract. From the laws of Rows.
use Rattle.talavorn.specs.Numbers.{appended_numbers}
use Rattle.talavorn.proofs.Laws.Rows.{appended_refused}
use Rattle.talavorn.proofs.numbers.put_unappended.Goals as goal

pub returns-in-Table : goal.returns-in-Table
returns-in-Table c = appended_refused _ _ c.in-Table.is _ _ c.put_table.ensures

pub returns-in-InTable : goal.returns-in-InTable
unfolding appended_numbers
returns-in-InTable c = λ size. rw c.in-InTable.is

pub returns-in-Unfit : goal.returns-in-Unfit
unfolding appended_numbers
returns-in-Unfit c = λ size. rw c.in-Unfit.is
