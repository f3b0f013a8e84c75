-- `line_input::put_line` meets its contract. From the laws of Lines.
use Rattle.line_input.proofs.Laws.Lines.{line_written}
use Rattle.line_input.proofs.put_line.Goals as goal

pub returns : goal.returns
returns c = search line_written
