-- `received::quoting::put_escaped_byte` meets its contract. From the laws of Quoting.
use Rattle.received.proofs.Laws.Quoting.{put_marked, put_plain}
use Rattle.received.proofs.quoting.put_escaped_byte.Goals as goal
use Rattle.received.proofs.quoting.put_escaped_byte.Goals.{then-is_marked, else-is_marked}

pub returns : goal.returns
returns c =
    elim c.if-is_marked.branch [
      | then-is_marked w ↦ record {
        wrote = put_marked _ _ c.is_marked.ensures _ _ w.if-is_marked.true _ _ _ _ w.put.ensures.wrote (rw w.out-is at c.put-2.ensures.wrote);
        same = cc;
      }
      | else-is_marked w ↦ record {
        wrote = put_plain _ _ c.is_marked.ensures _ _ w.if-is_marked.false _ _ (rw w.out-is at c.put-2.ensures.wrote);
        same = cc;
      }
    ]
