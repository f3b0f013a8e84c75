-- `received::reading::part_at` meets its contract. From the laws of Reading.
use Rattle.received.proofs.Laws.Reading.{part_quoted, part_plain}
use Rattle.received.proofs.reading.part_at.Goals as goal

pub returns-then-peek-eq34 : goal.returns-then-peek-eq34
returns-then-peek-eq34 c = search part_quoted

pub returns-else-peek-eq34 : goal.returns-else-peek-eq34
returns-else-peek-eq34 c = search part_plain
