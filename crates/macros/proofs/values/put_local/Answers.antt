-- `macros::values::put_local` meets its contract. From the laws of Tests.
use Rattle.macros.specs.Expansion.{local_part}
use Rattle.macros.proofs.values.put_local.Goals as goal

pub returns-then-is_empty : goal.returns-then-is_empty
unfolding local_part
returns-then-is_empty c = rw (← c.written_local-local.ensures, ← c.is_empty.ensures, c.if-is_empty.true) c.put_all.ensures

pub returns-else-is_empty : goal.returns-else-is_empty
unfolding local_part
returns-else-is_empty c = rw (← c.written_local-local.ensures, ← c.is_empty.ensures, c.if-is_empty.false) c.put_all-else-is_empty.ensures
