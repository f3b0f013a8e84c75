-- `record_listing::put_answer` meets its contract. From the laws of Walking.
use Rattle.record_listing.proofs.Laws.Walking.{answer_written, end_written, no_term_written}
use Rattle.record_listing.proofs.put_answer.Goals as goal

pub returns-in-Ok-Some : goal.returns-in-Ok-Some
returns-in-Ok-Some c =
    answer_written _ _ _ _ _ _ c.in-Ok-Some.is _ (rw c.in-Ok-Some.is at c.in-Ok-Some.field-0-is) _ c.put_place.ensures c.put_place-in-Ok-Some.ensures _ c.said_columns.ensures c.put_columns.ensures

pub returns-in-Ok-None : goal.returns-in-Ok-None
returns-in-Ok-None c = end_written _ _ _ _ _ c.in-Ok-None.is (rw c.in-Ok-None.is at c.in-Ok-None.field-0-is) c.put_all.ensures

pub returns-in-Err : goal.returns-in-Err
returns-in-Err c = search no_term_written
