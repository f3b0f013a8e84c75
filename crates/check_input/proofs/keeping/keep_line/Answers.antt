-- `check_input::keeping::keep_line` meets its contract. From the laws of Holding.
use Rattle.check_input.proofs.Laws.Holding.{line_kept}
use Rattle.check_input.proofs.keeping.keep_line.Goals as goal

pub returns : goal.returns
returns c = search line_kept
