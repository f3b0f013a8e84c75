-- `breach_listing::put_record` meets its contract. From the laws of Breaches.
use Rattle.breach_listing.proofs.Laws.Breaches.{record_written}
use Rattle.breach_listing.proofs.put_record.Goals as goal

pub returns : goal.returns
returns c = search record_written
