-- `target_name::ask_names` meets its contract. From the laws of Asking.
use mathlib.Core.Path.{refl}
use Rattle.std.proofs.lemmas.Result.{err_from_is_err_and}
use Rattle.target_name.proofs.Laws.Asking.{names_wanted, names_failed, names_items}
use Rattle.target_name.proofs.ask_names.Goals as goal

pub returns-in_err-found : goal.returns-in_err-found
returns-in_err-found c =
    let p = err_from_is_err_and c.from_residual.result c.from_residual.ensures.1 in
    rw (p.1, p.2) (names_wanted _ _ _ _ _ _ _ _ _ c.in_err-found.ensures)

pub returns-then-found-eq2 : goal.returns-then-found-eq2
returns-then-found-eq2 c = names_failed _ _ _ _ _ _ _ _ _ c.in_ok-found.ensures c.if-found-eq2.true _ refl

pub returns : goal.returns
returns c = names_items _ _ _ _ _ _ _ _ _ c.in_ok-found.ensures c.if-found-eq2.false _ c.part-names.ensures _ _ _ c.choose_name.ensures
