-- `text::bytes::run_end_by` meets its contract. From the laws of Runs.
use Rattle.std.proofs.Common.{rules, ◌∙◌}
use Rattle.text.proofs.Laws.Runs.{loop_next, loop_here, loop_end}
use Rattle.text.proofs.bytes.run_end_by.Goals as goal

pub returns-then-not-test : goal.returns-then-not-test
returns-then-not-test g c = λ p h. loop_here p _ _ _ (c.loop-j.invariant p h) c.loop-j-test.true _ (h _ _ (search rules) c.test.ensures) c.if-not-test.true

pub loop-j-preserved : goal.loop-j-preserved
loop-j-preserved g c = λ p h. loop_next p _ _ _ (c.loop-j.invariant p h) c.loop-j-test.true _ (h _ _ (search rules) c.test.ensures) c.if-not-test.false

pub returns : goal.returns
returns g c = λ p h. c.max.ensures ∙ loop_end p _ _ _ (c.loop-j.invariant p h) c.loop-j-test.false (search rules)
