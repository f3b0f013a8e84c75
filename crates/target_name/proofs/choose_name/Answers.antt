-- `target_name::choose_name` meets its contract. From the laws of Asking.
use mathlib.Core.Path.{◌∙◌}
use Rattle.std.proofs.lemmas.Result.{err_from_is_err_and}
use Rattle.target_name.proofs.Laws.Asking.{chosen_start, chosen_end, chosen_valid, chosen_invalid, chosen_wanted}
use Rattle.target_name.proofs.choose_name.Goals as goal

pub loop-name-init : goal.loop-name-init
loop-name-init c =
    rw c.into_iter-name-iterator.ensures.into_iter_gives
    (chosen_start _ _ _ _ _ _ _ c.take-name-items.ensures.count _ (c.take-name-items.ensures.source ∙ c.new.ensures.value))

pub returns-in_err-validate : goal.returns-in_err-validate
returns-in_err-validate c =
    let p = err_from_is_err_and c.from_residual.result c.from_residual.ensures.1 in
    let s = c.in-Some.ensures.steps in
    rw (p.1, p.2) (chosen_wanted _ _ _ _ _ _ _ _ _ _ _ c.loop-name.invariant c.in-Some.name _ _ s.0 s.1 _ _ _ c.in_err-validate.ensures)

pub loop-name-preserved-then-branch : goal.loop-name-preserved-then-branch
loop-name-preserved-then-branch c =
    let s = c.in-Some.ensures.steps in
    chosen_valid _ _ _ _ _ _ _ _ _ _ _ c.loop-name.invariant c.in-Some.name _ _ s.0 s.1 _ _ _ c.in_ok-validate.ensures c.if-branch.true _ c.choose-choice.ensures

pub loop-name-preserved : goal.loop-name-preserved
loop-name-preserved c =
    let s = c.in-Some.ensures.steps in
    chosen_invalid _ _ _ _ _ _ _ _ _ _ _ c.loop-name.invariant c.in-Some.name _ _ s.0 s.1 _ _ _ c.in_ok-validate.ensures c.if-branch.false

pub returns : goal.returns
returns c = chosen_end _ _ _ _ _ _ _ _ _ _ _ c.loop-name.invariant _ c.in-None.ensures.steps _ c.value_of.ensures
