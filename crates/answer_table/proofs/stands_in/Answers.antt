-- `stands_in` meets its contract. The loop's invariant: the search from `at` on, with turns enough, is the whole search. From the rules of the table.
use Rattle.answer_table.proofs.Laws.Rules.{name_within, size_fits, find_start, find_out, find_broken, find_less, find_next, stands_none, stands_here}
use Rattle.answer_table.proofs.stands_in.Goals as goal

pub loop-at-init : goal.loop-at-init
loop-at-init c = search find_start

pub returns-in_default : goal.returns-in_default
returns-in_default c = search (find_broken, stands_none)

pub slice_bounds-is_pair-end : goal.slice_bounds-is_pair-end
slice_bounds-is_pair-end c = search name_within

pub returns-then-is_pair : goal.returns-then-is_pair
returns-then-is_pair c = search stands_here

pub overflow_add-at : goal.overflow_add-at
overflow_add-at c = search size_fits

pub loop-at-smaller : goal.loop-at-smaller
loop-at-smaller c = search find_less

pub loop-at-preserved : goal.loop-at-preserved
loop-at-preserved c = search find_next

pub returns : goal.returns
returns c = search (find_out, stands_none)
