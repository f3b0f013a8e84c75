-- `record_listing::without_newline` meets its contract. From the laws of Walking.
use Rattle.record_listing.proofs.Laws.Walking.{newline_empty, newline_dropped, newline_other}
use Rattle.record_listing.proofs.without_newline.Goals as goal

pub returns-then-last-eq10 : goal.returns-then-last-eq10
returns-then-last-eq10 c = newline_dropped _ _ _ c.in-Some.ensures.cases.0 c.if-last-eq10.true

pub returns-else-last-eq10 : goal.returns-else-last-eq10
returns-else-last-eq10 c = newline_other _ _ _ c.in-Some.ensures.cases.0 c.if-last-eq10.false

pub returns-in_default : goal.returns-in_default
returns-in_default c = newline_empty _ c.in_default.ensures.cases
