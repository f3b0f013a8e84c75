-- `macros::pieces::read_reversal` meets its contract. From the laws of Reading.
use Rattle.macros.proofs.Laws.Reading.{reversal_room, reversal_there, reversal_absent}
use Rattle.macros.proofs.pieces.read_reversal.Goals as goal

pub overflow_add-d : goal.overflow_add-d
overflow_add-d c = search reversal_room

pub returns-then-to_lower-eq114 : goal.returns-then-to_lower-eq114
returns-then-to_lower-eq114 c = search reversal_there

pub returns-else-to_lower-eq114 : goal.returns-else-to_lower-eq114
returns-else-to_lower-eq114 c = search reversal_absent
