-- `record_listing::put_place` meets its contract. From the laws of Walking.
use Rattle.record_listing.proofs.Laws.Walking.{place_written}
use Rattle.record_listing.proofs.put_place.Goals as goal

pub returns : goal.returns
returns c = search place_written
