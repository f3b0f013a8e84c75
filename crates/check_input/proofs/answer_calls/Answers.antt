-- `answer_calls` meets its contract. From the laws of Inputs.
use Rattle.check_input.proofs.Laws.Inputs.{calls_decided, calls_fail, calls_wanting, calls_refused}
use Rattle.check_input.proofs.answer_calls.Goals as goal

pub returns-in-Decided : goal.returns-in-Decided
returns-in-Decided c = search calls_decided

pub returns-in-Fail : goal.returns-in-Fail
returns-in-Fail c = search calls_fail

pub returns-in-Wanting : goal.returns-in-Wanting
returns-in-Wanting c = search calls_wanting

pub returns-in-Err : goal.returns-in-Err
returns-in-Err c = search calls_refused
