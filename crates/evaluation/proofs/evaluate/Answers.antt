-- `evaluation::evaluate` meets its contract. From the rules of Laws.Deciding: 20 to 26 first, then the check.
use Rattle.std.proofs.Common.{rules}
use Rattle.std.proofs.lemmas.Result.{err_from_is_err_and}
use Rattle.evaluation.proofs.Laws.Refusing.{sender_small}
use Rattle.evaluation.proofs.Laws.Deciding.{evaluated_refused, evaluated_bad, evaluated_decided}
use Rattle.evaluation.proofs.evaluate.Goals as goal

pub returns-in_err-check_arguments : goal.returns-in_err-check_arguments
returns-in_err-check_arguments c = let p = err_from_is_err_and c.from_residual.result c.from_residual.ensures.1 in rw (p.1, p.2) (search (evaluated_refused, c.in_err-check_arguments.was))

pub returns-in_err-check_table : goal.returns-in_err-check_table
returns-in_err-check_table c =
    let p = err_from_is_err_and c.from_residual-in_err-check_table.result c.from_residual-in_err-check_table.ensures.1 in
    rw (p.1, p.2) (search (evaluated_bad, c.in_ok-check_arguments.was, c.in_err-check_table.was))

pub invariant_of-mail : goal.invariant_of-mail
invariant_of-mail c = search (sender_small, c.in_ok-check_arguments.was, rules)

pub returns : goal.returns
returns c = search (evaluated_decided, c.in_ok-check_arguments.was, c.in_ok-check_table.was)
