-- `text::bytes::is_in` meets its contract. From the law of a class's set.
use Rattle.std.proofs.Common.{rules}
use Rattle.text.specs.Sets.{in_set}
use Rattle.text.proofs.Laws.Tests.{tests}
use Rattle.text.proofs.Laws.Sets.{in_set_lem}
use Rattle.text.proofs.bytes.is_in.Goals as goal

pub returns-then-is_within-2 : goal.returns-then-is_within-2
unfolding in_set
returns-then-is_within-2 c = search (in_set_lem, tests, rules)

pub returns-else-is_within-2 : goal.returns-else-is_within-2
unfolding in_set
returns-else-is_within-2 c = search (in_set_lem, tests, rules)
