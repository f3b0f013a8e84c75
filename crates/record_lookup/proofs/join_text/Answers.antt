-- `record_lookup::join_text` meets its contract. From the rules of Laws.Picks.
use Rattle.record_lookup.proofs.Laws.Picks.{join_one, join_none}
use Rattle.record_lookup.proofs.join_text.Goals as goal

pub returns-then-has_version : goal.returns-then-has_version
returns-then-has_version c = search join_one

pub returns : goal.returns
returns c = search join_none
