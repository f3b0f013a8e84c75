-- `target_name::make_target` meets its contract. From the laws of Naming and Plain.
use Rattle.std.proofs.lemmas.Result.{err_from_is_err_and}
use Rattle.target_name.proofs.Laws.Plain.{target_plain}
use Rattle.target_name.proofs.Laws.Naming.{target_given, target_wants_p}
use Rattle.target_name.proofs.make_target.Goals as goal

pub returns-then-every : goal.returns-then-every
returns-then-every c = target_plain _ _ _ _ _ _ c.every.ensures c.if-every.true _ _ _ _ c.requires c.question_name.ensures.value c.question_name.ensures.out_after

pub returns-in_err-p : goal.returns-in_err-p
returns-in_err-p c =
    let p = err_from_is_err_and c.from_residual.result c.from_residual.ensures.1 in
    rw (p.1, p.2) (target_wants_p _ _ _ _ _ _ _ _ _ c.in_err-p.ensures _)

pub returns : goal.returns
returns c = target_given _ _ _ _ _ _ _ _ _ c.in_ok-p.ensures _ _ c.write_target.ensures
