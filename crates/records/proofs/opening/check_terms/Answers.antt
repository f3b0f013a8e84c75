-- `records::opening::check_terms` meets its contract. From the laws of Openings: at each place the answer from there on is the whole's, the terms so far
-- are as the opening says, and their redirect and exp stand where the modifiers say.
use Rattle.std.proofs.lemmas.Result.{err_from_is_err_and}
use Rattle.records.proofs.Laws.Openings.{opens_begin, opens_end_at, opens_refused, opens_repeats, opens_notes, opens_less, opens_next}
use Rattle.records.proofs.opening.check_terms.Goals as goal

pub loop-place-init : goal.loop-place-init
loop-place-init c = search opens_begin

pub returns-in_err-place : goal.returns-in_err-place
returns-in_err-place c =
    let p = err_from_is_err_and c.from_residual.result c.from_residual.ensures.1 in
    rw (p.1, p.2) (search (opens_refused, c.in_err-place.was))

pub returns-then-repeats : goal.returns-then-repeats
returns-then-repeats c = search (opens_repeats, c.in_ok-place.was)

pub note-met-requires : goal.note-met-requires
note-met-requires c = search (opens_notes, c.in_ok-place.was)

pub loop-place-smaller : goal.loop-place-smaller
loop-place-smaller c = search (opens_less, c.in_ok-place.was)

pub loop-place-preserved : goal.loop-place-preserved
loop-place-preserved c = search (opens_next, c.in_ok-place.was)

pub returns-in_default : goal.returns-in_default
returns-in_default c = search (opens_end_at, c.in_ok-place.was)
