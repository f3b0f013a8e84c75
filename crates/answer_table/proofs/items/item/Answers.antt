-- `item` is the reader's first item from a place on, cut off where the list ends. From `item_read` (Reading).
use Rattle.answer_table.proofs.Laws.Reading.{item_read}
use Rattle.answer_table.proofs.items.item.Goals as goal

pub returns : goal.returns
returns c = search item_read
