-- `marks::set_mark` meets its contract. From the rules of Marks.
use Rattle.answer_table.proofs.Laws.Marks.{mark_set}
use Rattle.answer_table.proofs.marks.Marks.set_mark.Goals as goal

pub returns : goal.returns
returns c = search mark_set
