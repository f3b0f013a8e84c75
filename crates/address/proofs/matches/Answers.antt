-- `matches` meets its contract, from a law for each pair of families.
use Rattle.address.proofs.Laws.Matching.{match_four, match_sixteen, four_sixteen, sixteen_four}
use Rattle.address.proofs.matches.Goals as goal

pub returns-in-IPv4-network : goal.returns-in-IPv4-network
returns-in-IPv4-network c =
    let v = match_four _ _ _ _ _ c.in-IPv4.is c.in-IPv4-network.is _ _ c.octets4.ensures c.octets4-in-IPv4-network.ensures _ c.agrees.ensures in
    record { value = v.0; rule = v.1 }

pub returns-in-IPv6-network : goal.returns-in-IPv6-network
returns-in-IPv6-network c =
    let v = four_sixteen _ _ _ _ _ _ c.in-IPv4.is c.in-IPv6-network.is in
    record { value = v.0; rule = v.1 }

pub returns-in-IPv6-network-2 : goal.returns-in-IPv6-network-2
returns-in-IPv6-network-2 c =
    let v = match_sixteen _ _ _ _ _ _ _ c.in-IPv6.is c.in-IPv6-network-2.is _ _ c.octets16.ensures c.octets16-in-IPv6-network-2.ensures
    _ c.agrees-in-IPv6-network-2.ensures in
    record { value = v.0; rule = v.1 }

pub returns-in-IPv4-network-2 : goal.returns-in-IPv4-network-2
returns-in-IPv4-network-2 c =
    let v = sixteen_four _ _ _ _ _ _ c.in-IPv6.is c.in-IPv4-network-2.is in
    record { value = v.0; rule = v.1 }
