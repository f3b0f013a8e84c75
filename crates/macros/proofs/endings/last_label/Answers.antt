-- `macros::endings::last_label` meets its contract. From the laws of Labels.
use Rattle.macros.proofs.Laws.Labels.{label_inside, label_none, label_here}
use Rattle.macros.proofs.endings.last_label.Goals as goal

pub returns-then-i-eq0 : goal.returns-then-i-eq0
returns-then-i-eq0 c = search label_none

pub slice_bounds-result-count : goal.slice_bounds-result-count
slice_bounds-result-count c = search label_inside

pub slice_bounds-result-start : goal.slice_bounds-result-start
slice_bounds-result-start c = search label_inside

pub returns-else-i-eq0 : goal.returns-else-i-eq0
returns-else-i-eq0 c = search label_here
