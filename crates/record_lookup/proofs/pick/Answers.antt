-- `pick` meets its contract. The loop's invariant: the answer so far is for the records among the items before the walk's place.
use Rattle.std.proofs.Common.{rules, ◌∙◌}
use Rattle.record_lookup.proofs.Laws.Picks.{pick_start, pick_next, pick_end, text_fits, end_fits}
use Rattle.record_lookup.proofs.pick.Goals as goal

pub loop-place-init : goal.loop-place-init
loop-place-init c =
    rw c.into_iter-place-iterator.ensures.into_iter_gives
    (pick_start _ _ _ (c.new-place-items.ensures.items ∙ c.part-texts.ensures) c.new-place-items.ensures.at)

pub overflow_add-text : goal.overflow_add-text
overflow_add-text c = text_fits _ _ _ _ _ _ c.loop-place.invariant _ c.in-Some.ensures.steps (search rules)

pub overflow_add-text-in-loop-place : goal.overflow_add-text-in-loop-place
overflow_add-text-in-loop-place c = end_fits _ _ _ _ _ _ c.loop-place.invariant _ c.in-Some.ensures.steps (search rules)

pub loop-place-preserved : goal.loop-place-preserved
loop-place-preserved c = pick_next _ _ _ _ _ _ c.loop-place.invariant _ c.in-Some.ensures.steps _ c.join_text-seen.ensures

pub returns : goal.returns
returns c = pick_end _ _ _ _ _ _ c.loop-place.invariant c.in-None.ensures.steps
