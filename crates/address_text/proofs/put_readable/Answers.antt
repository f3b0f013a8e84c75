-- `address_text::put_readable` meets its contract. From the laws of Rows.
use Rattle.std.proofs.Common.{rules}
use Rattle.address_text.proofs.Laws.Rows.{readable_four, readable_six}
use Rattle.address_text.proofs.put_readable.Goals as goal

pub returns-in-IPv4 : goal.returns-in-IPv4
returns-in-IPv4 c = search readable_four

pub returns-in-IPv6 : goal.returns-in-IPv6
returns-in-IPv6 c = record { wrote = readable_six _ _ _ _ _ _ _ c.in-IPv6.is _ c.octets16-s.ensures _ (λ i r l p. search rules) c.put_row.ensures.wrote; same = search rules }
