-- `breach_listing::put_head` meets its contract. From the laws of Breaches.
use Rattle.breach_listing.proofs.Laws.Breaches.{head_written}
use Rattle.breach_listing.proofs.put_head.Goals as goal

pub returns : goal.returns
returns c = search head_written
