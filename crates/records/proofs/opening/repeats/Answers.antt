-- `records::opening::repeats` meets its contract. From the laws of Noting, one for each way out.
use Rattle.records.proofs.Laws.Noting.{met_redirect, met_exp, met_neither}
use Rattle.records.proofs.opening.repeats.Goals as goal

pub returns-in-Redirect : goal.returns-in-Redirect
returns-in-Redirect c = search met_redirect

pub returns-in-Explanation : goal.returns-in-Explanation
returns-in-Explanation c = search met_exp

pub returns-in_default : goal.returns-in_default
returns-in_default c = search met_neither
