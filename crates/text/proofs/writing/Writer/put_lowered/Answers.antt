-- `text::writing::Writer::put_lowered` meets its contract. From the laws of Writing.
use Rattle.text.proofs.Laws.Writing.{copied_start, copied_next, copied_end}
use Rattle.text.proofs.writing.Writer.put_lowered.Goals as goal

pub loop-b-init : goal.loop-b-init
loop-b-init c = search copied_start

pub loop-b-preserved : goal.loop-b-preserved
loop-b-preserved c = search copied_next

pub returns : goal.returns
returns c = search copied_end
