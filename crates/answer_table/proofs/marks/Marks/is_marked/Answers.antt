-- `marks::is_marked` meets its contract. From the rules of Marks.
use Rattle.answer_table.proofs.Laws.Marks.{mark_read}
use Rattle.answer_table.proofs.marks.Marks.is_marked.Goals as goal

pub returns : goal.returns
returns c = search mark_read
