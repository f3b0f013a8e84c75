-- `append_entry` meets its contract. From the rules.
use Rattle.std.proofs.Common.{arith}
use Rattle.std.proofs.lemmas.Result.{err_from_is_err_and}
use lib.ListN.{length-take}
use Rattle.answer_entry.specs.Appending.{beyond}
use Rattle.answer_entry.proofs.Laws.Rules.{append_checks, append_refused}
use Rattle.answer_entry.proofs.append_entry.Goals as goal

pub returns-then-table-size : goal.returns-then-table-size
returns-then-table-size c = search beyond

pub slice_bounds-check_table-end-2 : goal.slice_bounds-check_table-end-2
slice_bounds-check_table-end-2 c = simp length-take (omega arith)

pub append_checked-requires : goal.append_checked-requires
append_checked-requires c = search (append_checks, c.in_ok-count.was)

pub returns-in_err-count : goal.returns-in_err-count
returns-in_err-count c =
    let p = err_from_is_err_and c.from_residual.result c.from_residual.ensures.1 in rw p.1 (search (append_refused, c.in_err-count.was, p.2))
