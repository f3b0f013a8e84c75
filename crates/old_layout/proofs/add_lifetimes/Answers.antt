-- `add_lifetimes` meets its contract. From the rules.
use Rattle.std.proofs.Common.{rules, arith}
use Rattle.std.proofs.lemmas.Result.{err_from_is_err_and}
use Rattle.old_layout.proofs.Laws.Rules.{old_refused, count_fits, end_fits, new_too_long, no_room_left, table_written}
use Rattle.old_layout.proofs.add_lifetimes.Goals as goal
use Rattle.old_layout.proofs.add_lifetimes.Goals.{then-end-gt-MOST_BYTES-via-then-end-gt-MOST_BYTES, then-end-gt-MOST_BYTES-via-else-end-gt-MOST_BYTES+then-new-end}

pub returns-in_err-count : goal.returns-in_err-count
returns-in_err-count c =
    let p = err_from_is_err_and c.from_residual.result c.from_residual.ensures.1 in rw (p.1, p.2) (search (old_refused, c.in_err-count.was))

pub overflow_mul-end : goal.overflow_mul-end
overflow_mul-end c = search (count_fits, c.in_ok-count.was)

pub overflow_add-end : goal.overflow_add-end
overflow_add-end c = search (end_fits, c.in_ok-count.was)

pub returns-then-end-gt-MOST_BYTES : goal.returns-then-end-gt-MOST_BYTES
returns-then-end-gt-MOST_BYTES c = elim c.then-end-gt-MOST_BYTES.branch [
  | then-end-gt-MOST_BYTES-via-then-end-gt-MOST_BYTES w ↦ search (new_too_long, c.in_ok-count.was)
  | then-end-gt-MOST_BYTES-via-else-end-gt-MOST_BYTES+then-new-end w ↦ no_room_left _ _ _ c.check_table_in.ensures.table_answers_in _ c.in_ok-count.was (omega (arith, w.if-new-end.true))
]

pub returns : goal.returns
returns c =
    table_written _ _ _ c.check_table_in.ensures.table_answers_in _ c.in_ok-count.was c.if-end-gt-MOST_BYTES.false (omega (arith, c.if-new-end.false)) _ _
    c.new-out.ensures.out c.new-out.ensures.at c.put_table.ensures _ (search rules)
