-- `Places::next` comes nearer to the end.
use Rattle.answer_table.proofs.Laws.Items.{next_less}
use Rattle.answer_table.proofs.items.PlacesIterator.next.Goals as goal

pub returns-clause-goes : goal.returns-clause-goes
returns-clause-goes c = record { on = λ _. (tt, tt, search next_less); keeps = tt; rests = λ _. tt }
