-- `text::bytes::is_within` meets its contract. From the laws of Tests.
use Rattle.text.specs.Bytes.{within}
use Rattle.text.proofs.Laws.Tests.{tests}
use Rattle.text.proofs.bytes.is_within.Goals as goal

pub returns-then-low-b : goal.returns-then-low-b
unfolding within
returns-then-low-b c = search tests

pub returns-else-low-b : goal.returns-else-low-b
unfolding within
returns-else-low-b c = search tests
