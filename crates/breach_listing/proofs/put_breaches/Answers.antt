-- `breach_listing::put_breaches` meets its contract. From the laws of Walking.
use Rattle.std.proofs.Common.{rules, arith, refl, ◌∙◌}
use Rattle.breach_listing.proofs.Laws.Walking.{walked_start, walked_on, walked_end}
use Rattle.breach_listing.proofs.put_breaches.Goals as goal

pub loop-breach-init : goal.loop-breach-init
loop-breach-init c = (search rules, search (walked_start, rules))

pub loop-breach-preserved : goal.loop-breach-preserved
loop-breach-preserved c =
    let s = c.in-Some.ensures.steps in
    let v = c.loop-breach.invariant in
    (s.0 ∙ v.0, walked_on _ _ _ _ _ v.1 _ _ s.1.0 (s.1.1 ∙ v.0) _ _ refl (omega (arith, c.from_le_bytes-place.ensures)) _ c.put_breach.ensures)

pub returns : goal.returns
returns c =
    let v = c.loop-breach.invariant in
    walked_end _ _ _ _ _ v.1 (omega (arith, c.in-None.ensures.steps.1.0, v.0))
