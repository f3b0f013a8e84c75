-- `explaining::find_exp` meets its contract. From the laws of Standing.
use Rattle.std.proofs.Common.{rules}
use Rattle.evaluation.proofs.Laws.Standing.{find_single, find_other, find_refused, find_read, find_fits}
use Rattle.evaluation.proofs.explaining.find_exp.Goals as goal

pub returns-then-count_labels-le1 : goal.returns-then-count_labels-le1
returns-then-count_labels-le1 c = search find_single

pub returns-in_default : goal.returns-in_default
returns-in_default c = search find_other

pub returns-in_default-open_record : goal.returns-in_default-open_record
returns-in_default-open_record c = search find_refused

pub in_table-requires : goal.in_table-requires
in_table-requires c = search (find_fits, rules)

pub returns : goal.returns
returns c = search find_read
