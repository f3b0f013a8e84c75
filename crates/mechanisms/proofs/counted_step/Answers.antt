-- `mechanisms::counted_step` meets its contract. From the laws of Counted.
use Rattle.std.proofs.Common.{arith}
use Rattle.std.proofs.lemmas.Result.{err_from_is_err_and}
use Rattle.mechanisms.proofs.Laws.Counted.{counted_eleventh, counted_malformed, counted_wants, counted_asks, counted_few}
use Rattle.mechanisms.proofs.counted_step.Goals as goal

pub returns-then-progress-ge10 : goal.returns-then-progress-ge10
returns-then-progress-ge10 c = search counted_eleventh

pub returns-in_err-n : goal.returns-in_err-n
returns-in_err-n c = let p = err_from_is_err_and c.from_residual.result c.from_residual.ensures.1 in rw (p.1, p.2) (counted_wants _ _ _ _ _ _ c.if-progress-ge10.false _ _ _ _ _ c.in_err-n.ensures)

pub returns-in_default : goal.returns-in_default
returns-in_default c = counted_malformed _ _ _ _ _ _ c.if-progress-ge10.false _ _ _ _ _ c.in_ok-n.ensures c.in_default.is

pub ask-requires : goal.ask-requires
ask-requires c = counted_few _ _ _ _ _ _ _ _ _ _ c.in_ok-n.ensures _ c.in-Some.is (omega arith)

pub returns : goal.returns
returns c = counted_asks _ _ _ _ _ _ c.if-progress-ge10.false _ _ _ _ _ c.in_ok-n.ensures _ c.in-Some.is _ c.part.ensures _ _ _ c.ask.ensures
