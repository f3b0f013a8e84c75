-- `encoding::put_head` meets its contract. From the laws of Encoding.
use Rattle.answer_entry.proofs.Laws.Encoding.{head_written}
use Rattle.answer_entry.proofs.encoding.put_head.Goals as goal

pub returns : goal.returns
returns c = search head_written
