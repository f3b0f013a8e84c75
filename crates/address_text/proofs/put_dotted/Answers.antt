-- `address_text::put_dotted` meets its contract. From the laws of Rows.
use Rattle.std.proofs.Common.{rules}
use Rattle.address_text.proofs.Laws.Rows.{dotted_four, dotted_six}
use Rattle.address_text.proofs.put_dotted.Goals as goal

pub returns-in-IPv4 : goal.returns-in-IPv4
returns-in-IPv4 c = search dotted_four

pub returns-in-IPv6 : goal.returns-in-IPv6
returns-in-IPv6 c = record { wrote = dotted_six _ _ _ _ _ _ _ c.in-IPv6.is _ c.octets16-s.ensures _ (λ i r l p. search rules) c.put_row.ensures.wrote; same = search rules }
