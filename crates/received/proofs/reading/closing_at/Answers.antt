-- `received::reading::closing_at` meets its contract. From the laws of Reading.
use Rattle.received.proofs.Laws.Reading.{closing_next, closing_here, closing_out}
use Rattle.received.proofs.reading.closing_at.Goals as goal

pub returns-then-s-q-eq34 : goal.returns-then-s-q-eq34
returns-then-s-q-eq34 c = search closing_here

pub loop-q-preserved : goal.loop-q-preserved
loop-q-preserved c = search closing_next

pub returns : goal.returns
returns c = search closing_out
