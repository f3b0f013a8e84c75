-- `check_input::lines::put_counts` meets its contract. From the laws of Lines.
use Rattle.check_input.proofs.Laws.Lines.{counts_written}
use Rattle.check_input.proofs.lines.put_counts.Goals as goal

pub returns : goal.returns
returns c = search counts_written
