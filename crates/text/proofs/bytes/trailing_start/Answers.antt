-- `text::bytes::trailing_start` meets its contract. From the laws of Runs.
use Rattle.text.proofs.Laws.Runs.{trailing_begin, trailing_next, trailing_stop, trailing_zero}
use Rattle.text.proofs.bytes.trailing_start.Goals as goal

pub loop-i-init : goal.loop-i-init
loop-i-init c = search trailing_begin

pub loop-i-preserved : goal.loop-i-preserved
loop-i-preserved c = search trailing_next

pub returns-then-not-is_in : goal.returns-then-not-is_in
returns-then-not-is_in c = search trailing_stop

pub returns : goal.returns
returns c = search trailing_zero
