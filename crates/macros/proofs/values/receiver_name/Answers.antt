-- `macros::values::receiver_name` meets its contract. From the laws of Tests.
use Rattle.text.proofs.Laws.Tests.{ways}
use Rattle.macros.specs.Expansion.{receiver_name}
use Rattle.macros.proofs.values.receiver_name.Goals as goal

pub returns-then-is_empty : goal.returns-then-is_empty
unfolding receiver_name
returns-then-is_empty c = search ways

pub returns-else-is_empty : goal.returns-else-is_empty
unfolding receiver_name
returns-else-is_empty c = search ways
