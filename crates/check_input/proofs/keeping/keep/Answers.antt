-- `check_input::keeping::keep` meets its contract. From the laws of Holding.
use Rattle.check_input.proofs.Laws.Holding.{all_kept}
use Rattle.check_input.proofs.keeping.keep.Goals as goal

pub returns : goal.returns
returns c = search all_kept
