-- `marks::mark_pair` meets its contract. From the rules of Marks.
use Rattle.answer_table.proofs.Laws.Marks.{pair_old, pair_new, first_clear, second_clear}
use Rattle.answer_table.proofs.marks.Marks.mark_pair.Goals as goal
use Rattle.answer_table.proofs.marks.Marks.mark_pair.Goals.{else-is_marked-via-then-is_marked+else-is_marked-2, else-is_marked-via-else-is_marked}

pub returns-then-is_marked-2 : goal.returns-then-is_marked-2
returns-then-is_marked-2 c = search pair_old

pub returns : goal.returns
returns c = elim c.else-is_marked.branch [
  | else-is_marked-via-then-is_marked+else-is_marked-2 w ↦ search (pair_new, second_clear)
  | else-is_marked-via-else-is_marked w ↦ search (pair_new, first_clear)
]
