-- `transformers::transform` meets its contract. From the laws of Parts.
use Rattle.transformers.proofs.Laws.Parts.{transform_none, transform_reversed, transform_forward}
use Rattle.transformers.proofs.transform.Goals as goal

pub returns-then-n-eq0 : goal.returns-then-n-eq0
returns-then-n-eq0 c = search transform_none

pub returns-then-reversed : goal.returns-then-reversed
returns-then-reversed c = search transform_reversed

pub returns-else-reversed : goal.returns-else-reversed
returns-else-reversed c = search transform_forward
