-- `macros::uses_p` meets its contract. From the laws of Reading.
use Rattle.macros.proofs.Laws.Reading.{asks_p}
use Rattle.macros.proofs.uses_p.Goals as goal

pub returns : goal.returns
returns c = search asks_p
