-- `line_input::is_opened` meets its contract. From the laws of Inputs.
use Rattle.line_input.proofs.Laws.Inputs.{opened_or_not}
use Rattle.line_input.proofs.is_opened.Goals as goal

pub returns : goal.returns
returns c = search opened_or_not
