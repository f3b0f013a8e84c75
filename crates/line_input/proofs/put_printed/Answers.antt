-- `line_input::put_printed` meets its contract. From the laws of Inputs.
use Rattle.line_input.proofs.Laws.Inputs.{opened_printed, lines_printed, other_printed}
use Rattle.line_input.proofs.put_printed.Goals as goal

pub returns-then-is_opened : goal.returns-then-is_opened
returns-then-is_opened c = search opened_printed

pub returns-then-has_six_lines : goal.returns-then-has_six_lines
returns-then-has_six_lines c = search lines_printed

pub returns-else-has_six_lines : goal.returns-else-has_six_lines
returns-else-has_six_lines c = search other_printed
