-- `macros::values::written_local` meets its contract. From the laws of Senders.
use Rattle.std.proofs.Common.{rules}
use Rattle.macros.proofs.Laws.Senders.{local_here, local_none}
use Rattle.macros.proofs.values.written_local.Goals as goal

pub returns-in-Some : goal.returns-in-Some
returns-in-Some c = local_here _ c.in-Some.i (search rules) (search rules) (search rules)

pub returns-in-None : goal.returns-in-None
returns-in-None c = local_none _ (search rules)
