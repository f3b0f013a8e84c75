-- `check_input::keeping::put_front` meets its contract. From the laws of Holding.
use Rattle.check_input.proofs.Laws.Holding.{front_ended, front_open}
use Rattle.check_input.proofs.keeping.put_front.Goals as goal

pub returns-then-field-input : goal.returns-then-field-input
returns-then-field-input c = search front_ended

pub returns-else-field-input : goal.returns-else-field-input
returns-else-field-input c = search front_open
