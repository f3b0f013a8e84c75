-- `macros::values::is_short` meets its contract.
use Rattle.std.proofs.Common.{rules}
use Rattle.macros.specs.Expansion.{is_short}
use Rattle.macros.proofs.values.is_short.Goals as goal

pub returns : goal.returns
unfolding is_short
returns c = search rules
