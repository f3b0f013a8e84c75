-- `marks::is_new` meets its contract. From its definition.
use Rattle.answer_table.specs.Marks.{noted, unmarked}
use Rattle.answer_table.proofs.marks.is_new.Goals as goal

pub returns-in-Some : goal.returns-in-Some
returns-in-Some c = rw c.in-Some.is (noted c.mark_pair.ensures)

pub returns-in-None : goal.returns-in-None
returns-in-None c = rw c.in-None.is unmarked
