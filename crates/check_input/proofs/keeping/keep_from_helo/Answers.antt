-- `check_input::keeping::keep_from_helo` meets its contract. From the laws of Holding.
use Rattle.check_input.proofs.Laws.Holding.{helo_on}
use Rattle.check_input.proofs.keeping.keep_from_helo.Goals as goal

pub returns : goal.returns
returns c = search helo_on
