-- `record_listing::put_length` meets its contract. From the laws of Columns.
use Rattle.record_listing.proofs.Laws.Columns.{length_written, no_length_written}
use Rattle.record_listing.proofs.put_length.Goals as goal

pub returns-in-Some : goal.returns-in-Some
returns-in-Some c = search length_written

pub returns-in-None : goal.returns-in-None
returns-in-None c = search no_length_written
