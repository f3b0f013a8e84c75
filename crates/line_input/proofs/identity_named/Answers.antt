-- `line_input::identity_named` meets its contract: a test for each way out. From the laws of `text` on tests.
use Rattle.text.proofs.Laws.Tests.{ways}
use Rattle.line_input.specs.Reader.{identity_named}
use Rattle.line_input.proofs.identity_named.Goals as goal

pub returns-then-equal : goal.returns-then-equal
unfolding identity_named
returns-then-equal c = search ways

pub returns-then-equal-2 : goal.returns-then-equal-2
unfolding identity_named
returns-then-equal-2 c = search ways

pub returns-else-equal-2 : goal.returns-else-equal-2
unfolding identity_named
returns-else-equal-2 c = search ways
