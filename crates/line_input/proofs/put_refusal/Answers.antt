-- `line_input::put_refusal` meets its contract. From the laws of Lines.
use Rattle.line_input.proofs.Laws.Lines.{refusal_written}
use Rattle.line_input.proofs.put_refusal.Goals as goal

pub returns : goal.returns
returns c = record {
  wrote = refusal_written _ _ _ _ _ _ _ _ _ c.put_all.ensures.wrote (rw (c.from.ensures, c.number.ensures) at c.put_decimal.ensures.wrote) c.put.ensures.wrote;
  same = cc;
}
