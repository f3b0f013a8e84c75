-- `publishing::offences::put_offences` meets its contract. From the laws of Walking.
use Rattle.std.proofs.Common.{rules, ap, ◌∙◌, Ok}
use Rattle.publishing.proofs.Laws.Walking.{nothing_seen, offences_start, offences_out, offences_next, turn_less, at_end, at_refusal}
use Rattle.publishing.proofs.offences.put_offences.Goals as goal

pub loop-at-init : goal.loop-at-init
loop-at-init c = offences_start _ _ _ _ _ _ (nothing_seen _ c.default-seen.ensures) (search rules) (search rules)

pub loop-at-smaller : goal.loop-at-smaller
loop-at-smaller c = turn_less _ _ _ c.next_term.ensures _ _ _ (c.in-Ok-Some.is ∙ ap Ok c.in-Ok-Some.field-0-is)

pub loop-at-preserved : goal.loop-at-preserved
loop-at-preserved c =
    offences_next _ _ _ _ _ _ _ _ c.loop-at.invariant _ c.next_term.ensures _ _ _ (c.in-Ok-Some.is ∙ ap Ok c.in-Ok-Some.field-0-is) _ c.of-facts.ensures
    _ c.has_p.ensures _ c.peek.ensures _ c.put.ensures _ c.after-seen.ensures

pub returns-in_default : goal.returns-in_default
returns-in_default c = offences_out _ _ _ _ _ _ _ _ c.loop-at.invariant _ c.next_term.ensures (at_end _ (search rules))

pub returns-in_default-2 : goal.returns-in_default-2
returns-in_default-2 c = offences_out _ _ _ _ _ _ _ _ c.loop-at.invariant _ c.next_term.ensures (at_refusal _ _ c.in_default.is)
