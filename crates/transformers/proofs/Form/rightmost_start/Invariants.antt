-- `transformers::Form::rightmost_start` meets its contract. From the laws of Parts.
use Rattle.transformers.proofs.Laws.Parts.{Left}
use Rattle.transformers.proofs.Form.rightmost_start.Given as goal

abbrev pub invariant-loop-i : goal.invariant-loop-i
invariant-loop-i l = Left l.s l.self.delimiters.now l.n l.left l.i
