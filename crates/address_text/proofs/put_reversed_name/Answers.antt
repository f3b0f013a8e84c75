-- `address_text::put_reversed_name` meets its contract. From the laws of Rows.
use Rattle.std.proofs.Common.{rules}
use Rattle.address_text.proofs.Laws.Rows.{reversed_four, reversed_six}
use Rattle.address_text.proofs.put_reversed_name.Goals as goal

pub returns-in-IPv4 : goal.returns-in-IPv4
returns-in-IPv4 c = record { wrote = reversed_four _ _ _ _ _ _ c.in-IPv4.is _ c.octets4-s.ensures _ (λ i r l p. search rules) _ _ c.put_row.ensures.wrote c.put_all.ensures.wrote; same = search rules }

pub returns-in-IPv6 : goal.returns-in-IPv6
returns-in-IPv6 c = record { wrote = reversed_six _ _ _ _ _ _ _ c.in-IPv6.is _ c.octets16-s.ensures _ (λ i r l p. search rules) _ _ c.put_row-in-IPv6.ensures.wrote c.put_all-in-IPv6.ensures.wrote; same = search rules }
