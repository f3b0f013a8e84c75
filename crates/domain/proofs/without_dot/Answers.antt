-- `domain::without_dot` meets its contract. From the laws of Lowering.
use Rattle.domain.proofs.Laws.Lowering.{without_empty, without_last, without_none}
use Rattle.domain.proofs.without_dot.Goals as goal

pub returns-in-46 : goal.returns-in-46
returns-in-46 c = search without_last

pub returns-in_default : goal.returns-in_default
returns-in_default c = search without_empty

pub returns-in_default-2 : goal.returns-in_default-2
returns-in_default-2 c = search without_none
