-- `check_input::lines::put_line` meets its contract. From the laws of Lines.
use Rattle.check_input.proofs.Laws.Lines.{line_written}
use Rattle.check_input.proofs.lines.put_line.Goals as goal

pub returns : goal.returns
returns c = search line_written
