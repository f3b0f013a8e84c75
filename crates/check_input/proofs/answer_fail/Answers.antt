-- `answer_fail` meets its contract. From the laws of Inputs.
use Rattle.check_input.proofs.Laws.Inputs.{fail_text, fail_wanting, fail_refused}
use Rattle.check_input.proofs.answer_fail.Goals as goal

pub returns-in-Text : goal.returns-in-Text
returns-in-Text c = search fail_text

pub returns-in-Wanting : goal.returns-in-Wanting
returns-in-Wanting c = search fail_wanting

pub returns-in-Err : goal.returns-in-Err
returns-in-Err c = search fail_refused
