-- `mechanism_lookups::names::ask_names` meets its contract. From the laws of Loops.
use Rattle.std.proofs.lemmas.Result.{err_from_is_err_and}
use mathlib.Core.Path.{refl, ap}
use Rattle.std.proofs.Common.{Ok}
use Rattle.mechanism_lookups.proofs.Laws.Loops.{names_start, names_few, names_true, names_err, names_next, names_end, take_more, take_none}
use Rattle.mechanism_lookups.proofs.names.ask_names.Goals as goal

pub returns-in_err-ask_name : goal.returns-in_err-ask_name
returns-in_err-ask_name c = let p = err_from_is_err_and c.from_residual.result c.from_residual.ensures.1 in rw (p.1, p.2) (names_err _ _ _ _ _ _ _ _ _ (take_more _ _ _ _ _ (c.in-Some.ensures.steps).0 (c.in-Some.ensures.steps).1) _ _ c.loop-name.invariant _ _ _ c.in_err-ask_name.ensures _ refl)

pub returns-then-branch : goal.returns-then-branch
returns-then-branch c = names_true _ _ _ _ _ _ _ _ _ (take_more _ _ _ _ _ (c.in-Some.ensures.steps).0 (c.in-Some.ensures.steps).1) _ _ c.loop-name.invariant _ _ _ c.in_ok-ask_name.ensures _ refl c.if-branch.true

pub loop-name-preserved : goal.loop-name-preserved
loop-name-preserved c = names_next _ _ _ _ _ _ _ _ _ (take_more _ _ _ _ _ (c.in-Some.ensures.steps).0 (c.in-Some.ensures.steps).1) _ _ c.loop-name.invariant _ _ _ c.in_ok-ask_name.ensures (ap Ok c.if-branch.false)

pub returns : goal.returns
returns c = names_end _ _ _ _ _ _ _ _ _ (take_none _ _ (λ h. (c.in-None.ensures.steps h).0)) c.loop-name.invariant
