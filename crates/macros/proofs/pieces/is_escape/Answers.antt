-- `macros::pieces::is_escape` meets its contract. From the laws of Reading.
use Rattle.macros.proofs.Laws.Reading.{escape_listed}
use Rattle.macros.proofs.pieces.is_escape.Goals as goal

pub returns : goal.returns
returns c = search escape_listed
