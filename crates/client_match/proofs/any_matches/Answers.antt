-- `client_match::any_matches` meets its contract. From the laws of Addresses.
use Rattle.client_match.proofs.Laws.Addresses.{any_found, any_next, any_end}
use Rattle.client_match.proofs.any_matches.Goals as goal

pub returns-then-item_matches : goal.returns-then-item_matches
returns-then-item_matches c = any_found _ _ _ _ c.loop-item.invariant _ _ c.in-Some.ensures.steps _ c.from_octets.ensures _ c.item_matches.ensures c.if-item_matches.true

pub loop-item-preserved : goal.loop-item-preserved
loop-item-preserved c = any_next _ _ _ _ c.loop-item.invariant _ _ c.in-Some.ensures.steps _ c.from_octets.ensures _ c.item_matches.ensures c.if-item_matches.false

pub returns : goal.returns
returns c = any_end _ _ _ _ c.loop-item.invariant (c.in-None.ensures.steps).0
