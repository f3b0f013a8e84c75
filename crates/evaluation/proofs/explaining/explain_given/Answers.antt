-- `explaining::explain_given` meets its contract. From the rules of Laws.Explaining.
use Rattle.std.proofs.Common.{rules}
use Rattle.evaluation.proofs.Laws.Explaining.{given_nothing, given_made}
use Rattle.evaluation.proofs.explaining.explain_given.Goals as goal

pub returns-in_default : goal.returns-in_default
returns-in_default c = search (given_nothing, c.requires)

pub returns : goal.returns
returns c = search (given_made, c.requires, rules)
