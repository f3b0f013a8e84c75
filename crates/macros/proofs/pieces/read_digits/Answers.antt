-- `macros::pieces::read_digits` meets its contract. From the laws of Reading.
use Rattle.macros.proofs.Laws.Reading.{digits_counted, digits_bad}
use Rattle.macros.proofs.pieces.read_digits.Goals as goal

pub returns-then-is_count : goal.returns-then-is_count
returns-then-is_count c = search digits_counted

pub returns-else-is_count : goal.returns-else-is_count
returns-else-is_count c = search digits_bad
