-- `received::reading::number_of` meets its contract. From the laws of Reading.
use Rattle.std.proofs.Common.{arith, sym, ◌∙◌}
use Rattle.received.proofs.Laws.Reading.{number_is, number_none, differs}
use Rattle.received.proofs.reading.number_of.Goals as goal

pub loop-n-init : goal.loop-n-init
loop-n-init c = λ k h. absurd (omega arith)

pub loop-n-preserved : goal.loop-n-preserved
loop-n-preserved c = differs _ _ c.loop-n.invariant _ (rw c.word_of.ensures at c.equal.ensures) c.if-equal.false

pub returns-then-equal : goal.returns-then-equal
returns-then-equal c = number_is _ _ c.loop-n.invariant (omega arith) (sym (rw c.word_of.ensures at c.equal.ensures) ∙ c.if-equal.true)

pub returns : goal.returns
returns c = number_none _ (λ k h. c.loop-n.invariant k (omega arith))
