-- `received::quoting::is_atext` meets its contract. From the laws of Tests.
use Rattle.text.proofs.Laws.Tests.{tests}
use Rattle.text.specs.Runs.{is_in}
use Rattle.received.specs.Atoms.{is_atext}
use Rattle.received.proofs.quoting.is_atext.Goals as goal

pub returns-then-is_in : goal.returns-then-is_in
unfolding is_atext is_in
returns-then-is_in c = rw (← c.is_in.ensures, c.if-is_in.true)

pub returns-else-is_in : goal.returns-else-is_in
unfolding is_atext is_in
returns-else-is_in c = search tests
