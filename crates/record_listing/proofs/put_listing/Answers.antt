-- `record_listing::put_listing` meets its contract. From the laws of Walking.
use Rattle.std.proofs.Common.{rules}
use Rattle.record_listing.proofs.Laws.Walking.{terms_shown, refusal_shown}
use Rattle.record_listing.proofs.put_listing.Goals as goal

pub returns-in-Ok : goal.returns-in-Ok
returns-in-Ok c = record { shown = search terms_shown; same = search rules }

pub returns-in-Err : goal.returns-in-Err
returns-in-Err c = record { shown = search refusal_shown; same = search rules }
