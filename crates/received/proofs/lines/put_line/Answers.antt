-- `received::lines::put_line` meets its contract. From the laws of Lines.
use Rattle.received.proofs.Laws.Lines.{line_row}
use Rattle.received.proofs.lines.put_line.Goals as goal

pub returns : goal.returns
returns c = record {
  wrote = line_row _ _ _ _ _ _ _ _ _ _ _ _ _ _ _ _ _ _ _ _ _ _ _ _ c.put_all.ensures.wrote (rw c.word_of.ensures at c.put_all-2.ensures.wrote) c.put_pair.ensures.wrote
      c.put_pair-2.ensures.wrote c.put_pair-3.ensures.wrote c.put_pair-4.ensures.wrote (rw c.identity_word.ensures at c.put_pair-5.ensures.wrote) c.put_all-3.ensures.wrote;
  same = cc;
}
