-- `publishing::rows::put_row` meets its contract. From the laws of Tables.
use Rattle.std.proofs.Common.{rules}
use Rattle.publishing.proofs.Laws.Tables.{row_none, row_put, row_past}
use Rattle.publishing.proofs.rows.put_row.Goals as goal

pub returns-in_default : goal.returns-in_default
returns-in_default c = search row_none

pub returns-then-n-lt-MOST_ROWS : goal.returns-then-n-lt-MOST_ROWS
returns-then-n-lt-MOST_ROWS c = search (row_put, rules)

pub returns-else-n-lt-MOST_ROWS : goal.returns-else-n-lt-MOST_ROWS
returns-else-n-lt-MOST_ROWS c = search row_past
