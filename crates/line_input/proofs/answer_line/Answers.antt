-- `line_input::answer_line` meets its contract. From the laws of Inputs.
use Rattle.line_input.proofs.Laws.Inputs.{line_read, line_refused}
use Rattle.line_input.proofs.answer_line.Goals as goal

pub returns-in-Ok : goal.returns-in-Ok
returns-in-Ok c = search line_read

pub returns-in-Err : goal.returns-in-Err
returns-in-Err c = search line_refused
