-- `check_input::keeping::keep_time` meets its contract. From the laws of Holding.
use Rattle.check_input.proofs.Laws.Holding.{time_kept}
use Rattle.check_input.proofs.keeping.keep_time.Goals as goal

pub returns : goal.returns
returns c = search time_kept
