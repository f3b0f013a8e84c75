-- `read_header` is the reader's header of the entry at the front. From the rules of Reading.
use Rattle.answer_table.proofs.Laws.Reading.{header_cut, header_short, header_name, header_whole}
use Rattle.answer_table.proofs.entries.read_header.Goals as goal
use Rattle.answer_table.proofs.entries.read_header.Goals.{then-s-size-via-then-s-size, then-s-size-via-else-s-size+then-size-head}

pub returns-then-s-head : goal.returns-then-s-head
returns-then-s-head c = search header_cut

pub returns-then-s-size : goal.returns-then-s-size
returns-then-s-size c = elim c.then-s-size.branch [
  | then-s-size-via-then-s-size w ↦ search header_short
  | then-s-size-via-else-s-size+then-size-head w ↦ search header_name
]

pub returns : goal.returns
returns c = search header_whole
