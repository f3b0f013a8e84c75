-- `evaluation::finish` meets its contract. From the rules of Laws.Deciding.
use Rattle.evaluation.proofs.Laws.Deciding.{finish_order, finish_nowhere, finish_absent, finish_part}
use Rattle.evaluation.proofs.finish.Goals as goal

pub returns-in_default : goal.returns-in_default
returns-in_default c = search finish_nowhere

pub overflow_sub-at : goal.overflow_sub-at
overflow_sub-at c = search (finish_order, c.requires)

pub returns-in-None : goal.returns-in-None
returns-in-None c = search finish_absent

pub returns-in-Some-exp : goal.returns-in-Some-exp
returns-in-Some-exp c = search finish_part
