-- `records::terms::read_ip6` meets its contract. From the laws of Reading, Steps.
use Rattle.records.proofs.Laws.Reading.{end_after, colon_room, slash_inside, network_found}
use Rattle.records.specs.Reader.{network_by}
use Rattle.records.proofs.Laws.Steps.{steps}
use Rattle.records.proofs.terms.read_ip6.Goals as goal

pub overflow_add-from : goal.overflow_add-from
overflow_add-from c = search colon_room

pub slice_bounds-read_ip6-count : goal.slice_bounds-read_ip6-count
slice_bounds-read_ip6-count c = search end_after

pub slice_bounds-read_ip6-start : goal.slice_bounds-read_ip6-start
slice_bounds-read_ip6-start c = search end_after

pub slice_bounds-read_ip6-end : goal.slice_bounds-read_ip6-end
slice_bounds-read_ip6-end c = search slash_inside

pub slice_bounds-read_length6-count : goal.slice_bounds-read_length6-count
slice_bounds-read_length6-count c = search slash_inside

pub slice_bounds-read_length6-start : goal.slice_bounds-read_length6-start
slice_bounds-read_length6-start c = search slash_inside

pub returns-then-peek-eq58 : goal.returns-then-peek-eq58
returns-then-peek-eq58 c = search network_found

pub returns : goal.returns
unfolding network_by
returns c = search steps depth 12
