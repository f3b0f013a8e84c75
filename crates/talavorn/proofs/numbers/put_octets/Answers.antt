-- `numbers::put_octets` meets its contract. From the laws of Rows.
use Rattle.talavorn.proofs.Laws.Rows.{octets_four, octets_sixteen}
use Rattle.talavorn.proofs.numbers.put_octets.Goals as goal

pub returns-in-IPv4 : goal.returns-in-IPv4
returns-in-IPv4 c = octets_four _ _ _ _ _ c.in-IPv4.is c.octets4.ensures c.put_front.ensures

pub returns-in-IPv6 : goal.returns-in-IPv6
returns-in-IPv6 c = octets_sixteen _ _ _ _ _ _ c.in-IPv6.is c.octets16.ensures c.put_front-in-IPv6.ensures
