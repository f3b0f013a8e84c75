-- `numbers::put_term` meets its contract. From the laws of Rows.
use Rattle.talavorn.proofs.Laws.Rows.{from_room, to_room, row_by}
use Rattle.talavorn.proofs.numbers.put_term.Goals as goal

pub overflow_add-values : goal.overflow_add-values
overflow_add-values c = record { fits = from_room _ _ _ _ c.shape_of-s.ensures c.requires c.ranges.next.fits }

pub overflow_add-values-2 : goal.overflow_add-values-2
overflow_add-values-2 c = record { fits = to_room _ _ _ _ c.shape_of-s.ensures c.requires c.ranges.next.fits }

pub returns : goal.returns
returns c = search row_by
