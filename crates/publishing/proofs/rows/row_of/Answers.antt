-- `publishing::rows::row_of` meets its contract. From the laws of Tables.
use Rattle.publishing.proofs.Laws.Tables.{row_four, row_six}
use Rattle.publishing.proofs.rows.row_of.Goals as goal

pub returns-in-IPv4 : goal.returns-in-IPv4
returns-in-IPv4 c = search row_four

pub returns-in-IPv6 : goal.returns-in-IPv6
returns-in-IPv6 c = search row_six
