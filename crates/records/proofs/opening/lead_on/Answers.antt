-- `records::opening::lead_on` meets its contract. From the laws of Openings, one for each way out.
use Rattle.records.proofs.Laws.Openings.{lead_other, lead_matches, lead_passes, lead_asks, lead_behind}
use Rattle.records.proofs.opening.lead_on.Goals as goal

pub returns-in_default : goal.returns-in_default
returns-in_default c = search lead_other

pub returns-in-Matches : goal.returns-in-Matches
returns-in-Matches c = search lead_matches

pub returns-in-Passes : goal.returns-in-Passes
returns-in-Passes c = search lead_passes

pub returns-in-Asks : goal.returns-in-Asks
returns-in-Asks c = search lead_asks

pub returns : goal.returns
returns c = search lead_behind
