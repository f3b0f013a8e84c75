-- `text::writing::put_bytes` meets its contract. From the laws of Writing.
use Rattle.text.proofs.Laws.Writing.{copied_start, plain_next, plain_end}
use Rattle.text.proofs.writing.put_bytes.Goals as goal

pub loop-b-init : goal.loop-b-init
loop-b-init c = search copied_start

pub loop-b-preserved : goal.loop-b-preserved
loop-b-preserved c = search plain_next

pub returns : goal.returns
returns c = search plain_end
