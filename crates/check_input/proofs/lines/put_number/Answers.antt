-- `check_input::lines::put_number` meets its contract. From the laws of Lines.
use Rattle.check_input.proofs.Laws.Lines.{report_written}
use Rattle.check_input.proofs.lines.put_number.Goals as goal

pub returns : goal.returns
returns c = search report_written
