-- `received::reading::identity_of` meets its contract. From the laws of Tests.
use Rattle.text.proofs.Laws.Tests.{ways}
use Rattle.received.specs.Reader.{identity_of}
use Rattle.received.proofs.reading.identity_of.Goals as goal

pub returns-then-equal : goal.returns-then-equal
unfolding identity_of
returns-then-equal c = search ways

pub returns-else-equal : goal.returns-else-equal
unfolding identity_of
returns-else-equal c = search ways
