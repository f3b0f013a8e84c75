-- `client_match::includes_client` meets its contract. From the laws of Addresses.
use Rattle.client_match.proofs.Laws.Addresses.{includes_failed, includes_items}
use Rattle.client_match.proofs.includes_client.Goals as goal

pub returns-then-status-ne2 : goal.returns-then-status-ne2
returns-then-status-ne2 c = includes_items _ _ _ c.if-status-ne2.true _ c.width.ensures _ c.any_matches.ensures

pub returns-else-status-ne2 : goal.returns-else-status-ne2
returns-else-status-ne2 c = includes_failed _ _ _ c.if-status-ne2.false
