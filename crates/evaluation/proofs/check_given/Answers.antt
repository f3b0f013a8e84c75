-- `evaluation::check_given` meets its contract. From the rules of Laws.Deciding.
use Rattle.std.proofs.Common.{rules, arith}
use Rattle.evaluation.proofs.Laws.Deciding.{given_malformed, given_small, given_checked}
use Rattle.evaluation.proofs.check_given.Goals as goal

pub returns-in_default : goal.returns-in_default
returns-in_default c = search (given_malformed, c.requires)

pub check_domain-requires : goal.check_domain-requires
check_domain-requires c = (search (given_small, rules), rw c.requires (omega arith), rw c.requires (omega arith))

pub returns : goal.returns
returns c = search (given_checked, c.requires, rules)
