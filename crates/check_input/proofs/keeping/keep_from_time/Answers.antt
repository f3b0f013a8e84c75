-- `check_input::keeping::keep_from_time` meets its contract. From the laws of Holding.
use Rattle.check_input.proofs.Laws.Holding.{time_on}
use Rattle.check_input.proofs.keeping.keep_from_time.Goals as goal

pub returns : goal.returns
returns c = search time_on
