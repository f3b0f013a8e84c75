-- `line_input::put_parts` meets its contract. From the laws of Lines.
use Rattle.line_input.proofs.Laws.Lines.{parts_written}
use Rattle.line_input.proofs.put_parts.Goals as goal

pub returns : goal.returns
returns c = record {
  wrote = parts_written _ _ (rw c.word_of.ensures at c.put_line.ensures.wrote) c.put_value.ensures.wrote c.put_value-2.ensures.wrote c.put_value-3.ensures.wrote
      c.put_value-4.ensures.wrote c.put_value-5.ensures.wrote;
  same = cc;
}
