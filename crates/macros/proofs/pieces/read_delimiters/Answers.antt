-- `macros::pieces::read_delimiters` meets its contract. From the laws of Reading.
use Rattle.macros.proofs.Laws.Reading.{delimiters_closed, delimiters_bad}
use Rattle.macros.proofs.pieces.read_delimiters.Goals as goal

pub returns-then-peek-eq125 : goal.returns-then-peek-eq125
returns-then-peek-eq125 c = search delimiters_closed

pub returns-else-peek-eq125 : goal.returns-else-peek-eq125
returns-else-peek-eq125 c = search delimiters_bad
