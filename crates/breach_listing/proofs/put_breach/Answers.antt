-- `breach_listing::put_breach` meets its contract. From the laws of Breaches.
use Rattle.breach_listing.proofs.Laws.Breaches.{breach_written}
use Rattle.breach_listing.proofs.put_breach.Goals as goal

pub returns : goal.returns
returns c = search breach_written
