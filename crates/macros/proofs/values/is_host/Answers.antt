-- `macros::values::is_host` meets its contract. From the laws of Tests.
use Rattle.std.proofs.Common.{rules}
use Rattle.text.specs.Runs.{is_in}
use Rattle.text.proofs.Laws.Tests.{tests}
use Rattle.macros.specs.Expansion.{is_host}
use Rattle.macros.proofs.values.is_host.Goals as goal

pub returns-then-s-le255 : goal.returns-then-s-le255
unfolding is_host is_in
returns-then-s-le255 c = search tests

pub returns-else-s-le255 : goal.returns-else-s-le255
unfolding is_host
returns-else-s-le255 c = search (rules, tests)
