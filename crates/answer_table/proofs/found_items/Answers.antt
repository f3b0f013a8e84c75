-- `found_items` meets its contract. From the rules of the table.
use Rattle.answer_table.proofs.Laws.Rules.{items_missing, items_got}
use Rattle.answer_table.proofs.found_items.Goals as goal

pub returns-in-Some : goal.returns-in-Some
returns-in-Some c = search items_got

pub returns-in-None : goal.returns-in-None
returns-in-None c = search items_missing
