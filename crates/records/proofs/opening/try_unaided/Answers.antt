-- `records::opening::try_unaided` meets its contract. By the case of the term, and for a network by whether it matches.
use Rattle.records.specs.Opening.{unaided}
use Rattle.records.proofs.Laws.Openings.{unaided_matches, unaided_passes, unaided_by}
use Rattle.records.proofs.opening.try_unaided.Goals as goal

pub returns-then-matches : goal.returns-then-matches
returns-then-matches c = search unaided_matches

pub returns-in-All : goal.returns-in-All
unfolding unaided
returns-in-All c = search unaided_by

pub returns-else-matches : goal.returns-else-matches
returns-else-matches c = search unaided_passes

pub returns-in-Redirect : goal.returns-in-Redirect
unfolding unaided
returns-in-Redirect c = search unaided_by

pub returns-in-Explanation : goal.returns-in-Explanation
unfolding unaided
returns-in-Explanation c = search unaided_by

pub returns-in-Unknown : goal.returns-in-Unknown
unfolding unaided
returns-in-Unknown c = search unaided_by

pub returns-in-Include : goal.returns-in-Include
unfolding unaided
returns-in-Include c = search unaided_by

pub returns-in-A : goal.returns-in-A
unfolding unaided
returns-in-A c = search unaided_by

pub returns-in-Mx : goal.returns-in-Mx
unfolding unaided
returns-in-Mx c = search unaided_by

pub returns-in-Ptr : goal.returns-in-Ptr
unfolding unaided
returns-in-Ptr c = search unaided_by

pub returns-in-Exists : goal.returns-in-Exists
unfolding unaided
returns-in-Exists c = search unaided_by
