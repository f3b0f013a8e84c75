-- `lines::put_named` meets its contract. From the laws of Lines.
use Rattle.check_input.proofs.Laws.Lines.{named_written}
use Rattle.check_input.proofs.lines.put_named.Goals as goal

pub returns : goal.returns
returns c = search named_written
