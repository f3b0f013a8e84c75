-- `line_input::answer_given` meets its contract. From the laws of Inputs.
use Rattle.line_input.proofs.Laws.Inputs.{line_given, refusal_given}
use Rattle.line_input.proofs.answer_given.Goals as goal

pub returns-in-Ok : goal.returns-in-Ok
returns-in-Ok c = search line_given

pub returns-in-Err : goal.returns-in-Err
returns-in-Err c = search refusal_given
