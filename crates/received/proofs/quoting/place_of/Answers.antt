-- `received::quoting::place_of` meets its contract. From the laws of Quoting.
use Rattle.received.proofs.Laws.Quoting.{place_escape, place_last, place_plain}
use Rattle.received.proofs.quoting.place_of.Goals as goal
use Rattle.received.proofs.quoting.place_of.Goals.{else-s-i-eq92-via-then-s-i-eq92+else-i-s, else-s-i-eq92-via-else-s-i-eq92}

pub returns-then-i-s : goal.returns-then-i-s
returns-then-i-s c = search place_escape

pub returns-else-s-i-eq92 : goal.returns-else-s-i-eq92
returns-else-s-i-eq92 c =
    elim c.else-s-i-eq92.branch [
      | else-s-i-eq92-via-then-s-i-eq92+else-i-s w ↦ place_last _ _ c.requires w.if-i-s.false
      | else-s-i-eq92-via-else-s-i-eq92 w ↦ place_plain _ _ c.requires w.if-s-i-eq92.false
    ]
