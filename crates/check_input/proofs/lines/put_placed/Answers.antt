-- `check_input::lines::put_placed` meets its contract. From the laws of Lines.
use Rattle.check_input.proofs.Laws.Lines.{report_written}
use Rattle.check_input.proofs.lines.put_placed.Goals as goal

pub returns : goal.returns
returns c = search report_written
