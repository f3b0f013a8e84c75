-- `line_input::put_value` meets its contract. From the laws of Lines.
use Rattle.line_input.proofs.Laws.Lines.{value_written}
use Rattle.line_input.proofs.put_value.Goals as goal

pub returns : goal.returns
returns c = search value_written
