-- `records::opening::modifier_at` meets its contract. From the laws of Noting.
use Rattle.records.proofs.Laws.Noting.{at_none, at_some}
use Rattle.records.proofs.opening.modifier_at.Goals as goal

pub returns-then-place-eq0 : goal.returns-then-place-eq0
returns-then-place-eq0 c = search at_none

pub returns : goal.returns
returns c = search at_some
