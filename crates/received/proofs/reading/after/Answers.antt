-- `received::reading::after` meets its contract. From the laws of Tests.
use Rattle.text.proofs.Laws.Tests.{ways}
use Rattle.received.specs.Reader.{after}
use Rattle.received.proofs.reading.after.Goals as goal

pub returns-then-peek-eq34 : goal.returns-then-peek-eq34
unfolding after
returns-then-peek-eq34 c = search ways

pub returns-else-peek-eq34 : goal.returns-else-peek-eq34
unfolding after
returns-else-peek-eq34 c = search ways
