-- `received::reading::is_plain` meets its contract. From the laws of Tests.
use Rattle.text.proofs.Laws.Tests.{tests}
use Rattle.received.specs.States.{is_plain}
use Rattle.received.proofs.reading.is_plain.Goals as goal

pub returns-then-is_atext : goal.returns-then-is_atext
unfolding is_plain
returns-then-is_atext c = rw (← c.is_atext.ensures, c.if-is_atext.true)

pub returns-else-is_atext : goal.returns-else-is_atext
unfolding is_plain
returns-else-is_atext c = search tests
