-- `select_record` meets its contract: one rule for each way out, by the entry that was found and the records that were picked.
use Rattle.record_lookup.proofs.Laws.Lookups.{name_before, select_missing, select_failed, select_none, select_several, select_one}
use Rattle.record_lookup.proofs.select_record.Goals as goal

pub returns-in_default : goal.returns-in_default
returns-in_default c = search select_missing

pub returns-then-found-eq2 : goal.returns-then-found-eq2
returns-then-found-eq2 c = search select_failed

pub overflow_sub-selected : goal.overflow_sub-selected
overflow_sub-selected c = search name_before

pub returns-in-Nothing : goal.returns-in-Nothing
returns-in-Nothing c = search select_none

pub returns-in-Several : goal.returns-in-Several
returns-in-Several c = search select_several

pub returns-in-One : goal.returns-in-One
returns-in-One c = search select_one
