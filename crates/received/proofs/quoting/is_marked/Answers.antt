-- `received::quoting::is_marked` meets its contract. From the laws of Tests.
use Rattle.text.proofs.Laws.Tests.{tests}
use Rattle.received.specs.Quoting.{is_marked}
use Rattle.received.proofs.quoting.is_marked.Goals as goal

pub returns-then-b-eq34 : goal.returns-then-b-eq34
unfolding is_marked
returns-then-b-eq34 c = rw c.if-b-eq34.true

pub returns-else-b-eq34 : goal.returns-else-b-eq34
unfolding is_marked
returns-else-b-eq34 c = search tests
