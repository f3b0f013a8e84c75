-- `step_at` meets its contract. From the rules of the table.
use Rattle.answer_table.proofs.Laws.Rules.{name_before, name_within, size_within, step_broken, step_ill, step_repeated, step_fresh, step_new, step_covered}
use Rattle.answer_table.proofs.step_at.Goals as goal
use Rattle.answer_table.proofs.step_at.Goals.{else-not-is_new-via-then-not-is_new+else-stands_in, else-not-is_new-via-else-not-is_new}

pub returns-in_default : goal.returns-in_default
returns-in_default c = search step_broken

pub slice_bounds-name-end : goal.slice_bounds-name-end
slice_bounds-name-end c = search name_within

pub slice_bounds-is_entry-count : goal.slice_bounds-is_entry-count
slice_bounds-is_entry-count c = search name_before

pub slice_bounds-is_entry-start : goal.slice_bounds-is_entry-start
slice_bounds-is_entry-start c = search name_before

pub slice_bounds-is_entry-end : goal.slice_bounds-is_entry-end
slice_bounds-is_entry-end c = search size_within

pub returns-then-not-is_entry-clause-value : goal.returns-then-not-is_entry-clause-value
returns-then-not-is_entry-clause-value c = search step_ill

pub returns-then-stands_in-clause-value : goal.returns-then-stands_in-clause-value
returns-then-stands_in-clause-value c = search step_repeated

pub returns-clause-value : goal.returns-clause-value
returns-clause-value c = elim c.else-not-is_new.branch [
  | else-not-is_new-via-then-not-is_new+else-stands_in w ↦ search step_fresh
  | else-not-is_new-via-else-not-is_new w ↦ search step_new
]

pub returns-clause-covered_after : goal.returns-clause-covered_after
returns-clause-covered_after c = search step_covered
