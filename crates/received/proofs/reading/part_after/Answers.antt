-- `received::reading::part_after` meets its contract. From the laws of Reading.
use Rattle.received.proofs.Laws.Reading.{after_part}
use Rattle.received.proofs.reading.part_after.Goals as goal

pub returns : goal.returns
returns c = search after_part
