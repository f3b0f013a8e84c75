-- `received::reading::parts_of` meets its contract. From the laws of Reading.
use Rattle.received.proofs.Laws.Reading.{parts_are}
use Rattle.received.proofs.reading.parts_of.Goals as goal

pub returns : goal.returns
returns c = search parts_are
