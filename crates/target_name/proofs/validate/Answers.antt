-- `target_name::validate` meets its contract. From the laws of Asking.
use Rattle.std.proofs.lemmas.Result.{err_from_is_err_and}
use Rattle.target_name.proofs.Laws.Asking.{valid_wanted, valid_found}
use Rattle.target_name.proofs.validate.Goals as goal

pub returns-in_err-found : goal.returns-in_err-found
returns-in_err-found c =
    let p = err_from_is_err_and c.from_residual.result c.from_residual.ensures.1 in
    rw (p.1, p.2) (valid_wanted _ _ _ _ c.address_kind-kind.ensures _ _ _ _ _ c.in_err-found.ensures)

pub returns : goal.returns
returns c = valid_found _ _ _ _ c.address_kind-kind.ensures _ _ _ _ _ c.in_ok-found.ensures _ c.part-addresses.ensures _ c.includes_client.ensures
