-- `publishing::offences::survey` meets its contract. From the laws of Walking.
use Rattle.std.proofs.Common.{rules, ap, ◌∙◌, Ok}
use Rattle.publishing.proofs.Laws.Walking.{nothing_seen, survey_start, survey_out, survey_next, turn_less, at_end, at_refusal}
use Rattle.publishing.proofs.offences.survey.Goals as goal

pub loop-next-init : goal.loop-next-init
loop-next-init c = survey_start _ _ _ _ (nothing_seen _ c.default-seen.ensures)

pub loop-next-smaller : goal.loop-next-smaller
loop-next-smaller c = turn_less _ _ _ c.next_term.ensures _ _ _ (c.in-Ok-Some.is ∙ ap Ok c.in-Ok-Some.field-0-is)

pub loop-next-preserved : goal.loop-next-preserved
loop-next-preserved c =
    survey_next _ _ _ _ _ _ c.loop-next.invariant _ c.next_term.ensures _ _ _ (c.in-Ok-Some.is ∙ ap Ok c.in-Ok-Some.field-0-is) _ c.put_row.ensures _ c.of.ensures _ c.after-seen.ensures

pub returns-in_default : goal.returns-in_default
returns-in_default c = survey_out _ _ _ _ _ _ c.loop-next.invariant _ c.next_term.ensures (at_end _ (search rules))

pub returns-in_default-2 : goal.returns-in_default-2
returns-in_default-2 c = survey_out _ _ _ _ _ _ c.loop-next.invariant _ c.next_term.ensures (at_refusal _ _ c.in_default.is)
