-- `find_in` meets its contract. The loop's invariant: the search from `at` on, with turns enough, is the whole search. From the rules of the table.
use Rattle.answer_table.proofs.Laws.Rules.{name_within, size_fits, find_start, find_out, find_broken, find_less, find_here, find_next}
use Rattle.answer_table.proofs.find_in.Goals as goal

pub loop-at-init : goal.loop-at-init
loop-at-init c = search find_start

pub returns-in_err-header : goal.returns-in_err-header
returns-in_err-header c = rw c.from_residual.ensures (search (find_broken, c.in_err-header.was))

pub slice_bounds-is_pair-end : goal.slice_bounds-is_pair-end
slice_bounds-is_pair-end c = search (name_within, c.in_ok-header.was)

pub overflow_add-result-then-is_pair : goal.overflow_add-result-then-is_pair
overflow_add-result-then-is_pair c = search (size_fits, c.in_ok-header.was)

pub returns-then-is_pair : goal.returns-then-is_pair
returns-then-is_pair c = search (find_here, c.in_ok-header.was)

pub overflow_add-at : goal.overflow_add-at
overflow_add-at c = search (size_fits, c.in_ok-header.was)

pub loop-at-smaller : goal.loop-at-smaller
loop-at-smaller c = search (find_less, c.in_ok-header.was)

pub loop-at-preserved : goal.loop-at-preserved
loop-at-preserved c = search (find_next, c.in_ok-header.was)

pub returns : goal.returns
returns c = search find_out
