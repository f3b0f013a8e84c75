-- `line_input::has_six_lines` meets its contract. From the laws of Inputs.
use Rattle.line_input.proofs.Laws.Inputs.{six_too_long, six_or_not}
use Rattle.line_input.proofs.has_six_lines.Goals as goal

pub returns-else-input-le-MOST_INPUT : goal.returns-else-input-le-MOST_INPUT
returns-else-input-le-MOST_INPUT c = search six_too_long

pub returns-then-input-le-MOST_INPUT : goal.returns-then-input-le-MOST_INPUT
returns-then-input-le-MOST_INPUT c = search six_or_not
