-- `received::lines::put_pair` meets its contract. From the laws of Writing.
use Rattle.text.proofs.Laws.Writing.{wrote_then}
use Rattle.received.proofs.lines.put_pair.Goals as goal

pub returns : goal.returns
returns c = search wrote_then
