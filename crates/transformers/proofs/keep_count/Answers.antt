-- `transformers::keep_count` meets its contract. From the laws of Counts and Tests.
use Rattle.std.proofs.Common.{arith}
use Rattle.text.proofs.Laws.Tests.{ways}
use Rattle.transformers.proofs.Laws.Counts.{counted_start, counted_next, counted_end}
use Rattle.transformers.proofs.keep_count.Goals as goal

pub returns-then-is_empty : goal.returns-then-is_empty
returns-then-is_empty c = search ways

pub loop-d-init : goal.loop-d-init
loop-d-init c = search counted_start

pub loop-d-preserved : goal.loop-d-preserved
loop-d-preserved c = counted_next _ _ _ c.loop-d.invariant c.loop-d-test.true _ (omega arith)

pub returns : goal.returns
returns c = search (ways, counted_end)
