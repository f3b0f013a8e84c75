-- `macros::pieces::read_piece` meets its contract. From the laws of Reading.
use Rattle.macros.proofs.Laws.Reading.{piece_end, piece_escape, piece_braces, piece_percent, piece_literal, piece_bad}
use Rattle.macros.proofs.pieces.read_piece.Goals as goal

pub returns-then-is_empty : goal.returns-then-is_empty
returns-then-is_empty c = search piece_end

pub returns-then-is_escape : goal.returns-then-is_escape
returns-then-is_escape c = search piece_escape

pub returns-then-second-eq123 : goal.returns-then-second-eq123
returns-then-second-eq123 c = search piece_braces

pub returns-else-second-eq123 : goal.returns-else-second-eq123
returns-else-second-eq123 c = search piece_percent

pub returns-then-is_literal : goal.returns-then-is_literal
returns-then-is_literal c = search piece_literal

pub returns-else-is_literal : goal.returns-else-is_literal
returns-else-is_literal c = search piece_bad
