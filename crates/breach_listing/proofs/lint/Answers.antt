-- `breach_listing::lint` meets its contract. From the laws of Answering.
use Rattle.breach_listing.proofs.Laws.Answering.{list_linted, refusal_linted}
use Rattle.breach_listing.proofs.lint.Goals as goal

pub returns-in-Ok : goal.returns-in-Ok
returns-in-Ok c = search list_linted

pub returns-in-Err : goal.returns-in-Err
returns-in-Err c = search refusal_linted
