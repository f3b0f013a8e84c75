-- `transformers::put_parts` meets its contract. From the laws of Parts.
use Rattle.std.proofs.Common.{rules}
use Rattle.transformers.proofs.Laws.Parts.{written_plain, written_start, written_next, written_end}
use Rattle.transformers.proofs.Form.put_parts.Goals as goal

pub returns-then-is_empty : goal.returns-then-is_empty
returns-then-is_empty c =
    record { wrote = written_plain _ _ _ c.if-not-self.true (search rules) _ _ _ _ c.put_all.ensures.wrote; same = c.put_all.ensures.same }

pub loop-b-init : goal.loop-b-init
loop-b-init c = search written_start

pub loop-b-preserved : goal.loop-b-preserved
loop-b-preserved c = search written_next

pub returns : goal.returns
returns c = search written_end
