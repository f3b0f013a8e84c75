-- `explaining::explain_accepted` meets its contract. From the rules of Laws.Explaining.
use Rattle.evaluation.proofs.Laws.Explaining.{zero_none}
use Rattle.evaluation.proofs.explaining.explain_accepted.Goals as goal

pub returns-then-size-eq0 : goal.returns-then-size-eq0
returns-then-size-eq0 c = search zero_none
