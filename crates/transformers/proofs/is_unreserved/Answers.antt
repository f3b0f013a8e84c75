-- `transformers::is_unreserved` meets its contract. From the laws of Escaping.
use Rattle.transformers.proofs.Laws.Escaping.{unreserved_alphanumeric, unreserved_other}
use Rattle.transformers.proofs.is_unreserved.Goals as goal

pub returns-then-is_in : goal.returns-then-is_in
returns-then-is_in c = search unreserved_alphanumeric

pub returns-else-is_in : goal.returns-else-is_in
returns-else-is_in c = search unreserved_other
