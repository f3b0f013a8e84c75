-- `transformers::put_reversed` meets its contract. From the laws of Parts. It ends since what follows the first part is shorter.
use lib.ListN.{length}
use Rattle.transformers.proofs.Form.+put_reversed.Given as goal

abbrev pub decreases-put_reversed : goal.decreases-put_reversed
decreases-put_reversed l = length l.s.now
