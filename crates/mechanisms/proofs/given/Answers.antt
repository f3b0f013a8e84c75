-- `mechanisms::given` meets its contract. From the laws of Trying.
use Rattle.mechanisms.proofs.Laws.Trying.{given_none, given_some}
use Rattle.mechanisms.proofs.given.Goals as goal

pub returns-then-from-to : goal.returns-then-from-to
returns-then-from-to c = given_none _ _ _ c.if-from-to.true

pub returns-else-from-to : goal.returns-else-from-to
returns-else-from-to c = given_some _ _ _ _ c.part.ensures c.if-from-to.false
