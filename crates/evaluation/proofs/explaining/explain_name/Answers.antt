-- `explaining::explain_name` meets its contract. From the rules of Laws.Explaining.
use Rattle.evaluation.proofs.Laws.Explaining.{name_none, part_order, name_elsewhere, name_longer, name_made}
use Rattle.evaluation.proofs.explaining.explain_name.Goals.{then-exp-place-via-then-exp-place, then-exp-place-via-else-exp-place+then-exp-size}
use Rattle.evaluation.proofs.explaining.explain_name.Goals as goal

pub returns-in_default : goal.returns-in_default
returns-in_default c = search (name_none, c.requires)

pub overflow_sub-exp : goal.overflow_sub-exp
overflow_sub-exp c = search part_order

pub returns-then-exp-place : goal.returns-then-exp-place
returns-then-exp-place c = elim c.then-exp-place.branch [
  | then-exp-place-via-then-exp-place w ↦ search (name_elsewhere, w.if-exp-place.true, c.requires)
  | then-exp-place-via-else-exp-place+then-exp-size w ↦ search (name_longer, w.if-exp-size.true, c.requires)
]

pub returns : goal.returns
returns c = search (name_made, c.requires)
