-- `breach_listing::put_caret` meets its contract. From the laws of Breaches.
use Rattle.breach_listing.proofs.Laws.Breaches.{caret_written}
use Rattle.breach_listing.proofs.put_caret.Goals as goal

pub returns : goal.returns
returns c = search caret_written
