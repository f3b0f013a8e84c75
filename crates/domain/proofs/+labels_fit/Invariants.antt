-- `domain::labels_fit` meets its contract. It ends since what follows the first dot is shorter.
use lib.ListN.{length}
use Rattle.domain.proofs.+labels_fit.Given as goal

abbrev pub decreases-labels_fit : goal.decreases-labels_fit
decreases-labels_fit l = length l.s.now
