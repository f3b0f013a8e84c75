-- `received::write_line` meets its contract. From the laws of Lines.
use Rattle.received.proofs.Laws.Lines.{writing, answered}
use Rattle.received.proofs.write_line.Goals as goal

pub returns-then-not-is_sender : goal.returns-then-not-is_sender
returns-then-not-is_sender c = record { says = search writing; writes_line = answered _ _ _ _ (search writing) }

pub returns-then-not-are_hosts : goal.returns-then-not-are_hosts
returns-then-not-are_hosts c = record { says = search writing; writes_line = answered _ _ _ _ (search writing) }

pub returns-then-res-ge7 : goal.returns-then-res-ge7
returns-then-res-ge7 c = record { says = search writing; writes_line = answered _ _ _ _ (search writing) }

pub returns : goal.returns
returns c = record { says = search writing; writes_line = answered _ _ _ _ (search writing) }
