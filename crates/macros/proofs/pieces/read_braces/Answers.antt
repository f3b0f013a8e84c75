-- `macros::pieces::read_braces` meets its contract. From the laws of Reading.
use Rattle.macros.proofs.Laws.Reading.{braces_letter, braces_bad}
use Rattle.macros.proofs.pieces.read_braces.Goals as goal

pub returns-then-is_letter : goal.returns-then-is_letter
returns-then-is_letter c = search braces_letter

pub returns-else-is_letter : goal.returns-else-is_letter
returns-else-is_letter c = search braces_bad
