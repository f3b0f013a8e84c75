-- `records::terms::read_token` meets its contract. From the laws of Reading.
use Rattle.records.proofs.Laws.Reading.{end_after, name_inside, equals_inside, token_modifier, token_no_kind, token_by_kind}
use Rattle.records.proofs.terms.read_token.Goals as goal

pub read_modifier-requires : goal.read_modifier-requires
read_modifier-requires c = search equals_inside

pub returns-then-is_modifier : goal.returns-then-is_modifier
returns-then-is_modifier c = search token_modifier

pub slice_bounds-kind_of-count : goal.slice_bounds-kind_of-count
slice_bounds-kind_of-count c = search end_after

pub slice_bounds-kind_of-start : goal.slice_bounds-kind_of-start
slice_bounds-kind_of-start c = search end_after

pub slice_bounds-kind_of-end : goal.slice_bounds-kind_of-end
slice_bounds-kind_of-end c = search name_inside

pub read_mechanism_by-requires : goal.read_mechanism_by-requires
read_mechanism_by-requires c = search name_inside

pub returns-in_err-kind_of : goal.returns-in_err-kind_of
returns-in_err-kind_of c = rw c.from_residual.ensures (search (token_no_kind, c.in_err-kind_of.was))

pub returns : goal.returns
returns c = search (token_by_kind, c.in_ok-kind_of.was)
