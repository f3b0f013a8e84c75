-- `check_input::lines::put_spaced` meets its contract. From the laws of Lines.
use Rattle.check_input.proofs.Laws.Lines.{spaced_written}
use Rattle.check_input.proofs.lines.put_spaced.Goals as goal

pub returns : goal.returns
returns c = search spaced_written
