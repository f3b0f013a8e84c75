-- `explanation::explain` meets its contract. From the laws of Fetching.
use Rattle.std.proofs.lemmas.Result.{err_from_is_err_and}
use Rattle.explanation.proofs.Laws.Fetching.{name_inside, name_whole, explain_by_name, explain_malformed, explain_wanted}
use Rattle.explanation.proofs.explain.Goals as goal

pub returns-in_err-n : goal.returns-in_err-n
returns-in_err-n c =
    let p = err_from_is_err_and c.from_residual.result c.from_residual.ensures.1 in
    rw (p.1, p.2) (explain_wanted _ _ _ _ _ _ _ _ _ _ c.in_err-n.ensures _)

pub returns-in_default : goal.returns-in_default
returns-in_default c = explain_malformed _ _ _ _ _ _ _ _ _ _ c.in_ok-n.ensures c.in_default.is _

pub slice_bounds-target-end : goal.slice_bounds-target-end
slice_bounds-target-end c = name_inside _ _ _ _ _ _ _ _ _ _ c.in_ok-n.ensures _ c.in-Some.is

pub slice_bounds-explain_name-end : goal.slice_bounds-explain_name-end
slice_bounds-explain_name-end c = name_whole _ _ _ _ _ _ _ _ _ _ c.in_ok-n.ensures _ c.in-Some.is

pub returns : goal.returns
returns c = explain_by_name _ _ _ _ _ _ _ _ _ _ c.in_ok-n.ensures _ c.in-Some.is c.explain_name.new.progress _ _ _ _ c.explain_name.ensures
