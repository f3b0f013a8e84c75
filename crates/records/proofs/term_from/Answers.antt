-- `records::term_from` meets its contract. From the laws of Checking and Reading.
use Rattle.std.proofs.Common.{arith}
use Rattle.records.proofs.Laws.Reading.{end_after, end_inside}
use Rattle.records.proofs.Laws.Checking.{from_end, from_bad, from_term}
use Rattle.records.proofs.term_from.Goals as goal

pub returns-then-at-s : goal.returns-then-at-s
returns-then-at-s c = let a = c.args in from_end a.s.now a.at (omega arith)

pub slice_bounds-read_token-count : goal.slice_bounds-read_token-count
slice_bounds-read_token-count c = search end_after

pub slice_bounds-read_token-start : goal.slice_bounds-read_token-start
slice_bounds-read_token-start c = search end_after

pub slice_bounds-read_token-end : goal.slice_bounds-read_token-end
slice_bounds-read_token-end c = search end_inside

pub returns-in_default : goal.returns-in_default
returns-in_default c = search from_bad

pub returns : goal.returns
returns c = search from_term
