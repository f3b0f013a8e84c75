-- `find` meets its contract: what it answers is what looking up says. From the rules of the table.
use Rattle.answer_table.proofs.Laws.Rules.{find_right}
use Rattle.answer_table.proofs.find.Goals as goal

pub returns-clause-finds : goal.returns-clause-finds
returns-clause-finds c = search find_right
