-- `encoding::put_entry` meets its contract. From the laws of Encoding.
use Rattle.answer_entry.proofs.Laws.Encoding.{entry_written}
use Rattle.answer_entry.proofs.encoding.put_entry.Goals as goal

pub returns : goal.returns
returns c = search entry_written
