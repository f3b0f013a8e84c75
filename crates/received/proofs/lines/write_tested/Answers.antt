-- `received::lines::write_tested` meets its contract. From the laws of Lines.
use Rattle.std.proofs.Common.{rules}
use Rattle.received.proofs.Laws.Lines.{client_text}
use Rattle.received.proofs.lines.write_tested.Goals as goal

pub returns : goal.returns
returns c = client_text _ _ c.as_client.ensures.value _ _ _ _ _ _ c.new-w.ensures.at c.put_readable.ensures.wrote (search rules) (simp c.new-w.ensures.out) c.part.ensures _ _ _ _
    c.write_fitting.ensures
