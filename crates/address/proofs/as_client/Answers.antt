-- `as_client` meets its contract. From the laws of Clients.
use Rattle.std.proofs.Common.{rules}
use Rattle.address.proofs.Laws.Clients.{client_mapped, client_unmapped, client_high, client_four, client_right}
use Rattle.address.proofs.as_client.Goals as goal

pub returns-in-IPv6-eq0-default : goal.returns-in-IPv6-eq0-default
returns-in-IPv6-eq0-default c =
    let v = client_mapped _ _ _ c.in-IPv6-eq0-default.is (cc) c.if-low-eq65535.true in
    record { value = v; octets_of_result = client_right _ (search rules) _ v }

pub returns-in_default : goal.returns-in_default
returns-in_default c =
    let v = client_unmapped _ _ _ c.in-IPv6-eq0-default.is c.if-low-eq65535.false in
    record { value = v; octets_of_result = client_right _ (search rules) _ v }

pub returns-in_default-2 : goal.returns-in_default-2
returns-in_default-2 c =
    let v = client_high _ _ _ c.in_default.is (λ e. c.in_default.field-0-test.1 (cc)) in
    record { value = v; octets_of_result = client_right _ (search rules) _ v }

pub returns-in_default-3 : goal.returns-in_default-3
returns-in_default-3 c =
    let v = client_four _ _ c.in_default.is in
    record { value = v; octets_of_result = client_right _ (search rules) _ v }
