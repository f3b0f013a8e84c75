-- `received::reading::is_line` meets its contract. From the laws of Reading.
use Rattle.received.proofs.Laws.Reading.{line_or_not}
use Rattle.received.proofs.reading.is_line.Goals as goal

pub returns : goal.returns
returns c = search line_or_not
