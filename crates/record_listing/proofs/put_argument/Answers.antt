-- `record_listing::put_argument` meets its contract. From the laws of Columns.
use Rattle.record_listing.proofs.Laws.Columns.{no_argument_written, argument_written}
use Rattle.record_listing.proofs.put_argument.Goals as goal

pub returns-in-Some : goal.returns-in-Some
returns-in-Some c = search argument_written

pub returns-in-None : goal.returns-in-None
returns-in-None c = search no_argument_written
