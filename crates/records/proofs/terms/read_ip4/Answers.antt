-- `records::terms::read_ip4` meets its contract. From the laws of Fronts, Reading, Steps.
use Rattle.records.proofs.Laws.Fronts.{front_none, front_inside, front_found}
use Rattle.records.proofs.Laws.Reading.{colon_room}
use Rattle.records.specs.Reader.{network_by}
use Rattle.records.proofs.Laws.Steps.{steps}
use Rattle.records.proofs.terms.read_ip4.Goals as goal

pub overflow_add-from : goal.overflow_add-from
overflow_add-from c = search colon_room

pub returns-in_err-value : goal.returns-in_err-value
returns-in_err-value c = rw c.from_residual.ensures (search (front_none, c.in_err-value.was))

pub slice_bounds-read_length4-count : goal.slice_bounds-read_length4-count
slice_bounds-read_length4-count c = search (front_inside, c.in_ok-value.was)

pub slice_bounds-read_length4-start : goal.slice_bounds-read_length4-start
slice_bounds-read_length4-start c = search (front_inside, c.in_ok-value.was)

pub returns-then-peek-eq58 : goal.returns-then-peek-eq58
returns-then-peek-eq58 c = search (front_found, c.in_ok-value.was)

pub returns : goal.returns
unfolding network_by
returns c = search steps depth 12
