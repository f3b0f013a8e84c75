-- `domain::is_table_name` meets its contract. From the laws of TableNames.
use Rattle.domain.proofs.Laws.TableNames.{table_byte, table_byte_lem, table_long, table_fits}
use Rattle.domain.proofs.is_table_name.Goals as goal

pub returns-then-s-le-MOST_NAME : goal.returns-then-s-le-MOST_NAME
returns-then-s-le-MOST_NAME c = table_fits _ c.if-s-le-MOST_NAME.true _ (c.labels_fit.ensures table_byte (table_byte_lem c.args.s.now))

pub returns-else-s-le-MOST_NAME : goal.returns-else-s-le-MOST_NAME
returns-else-s-le-MOST_NAME c = search table_long
