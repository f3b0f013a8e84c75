-- `record_listing::put_term` meets its contract. From the laws of Walking.
use Rattle.record_listing.proofs.Laws.Walking.{term_written}
use Rattle.record_listing.proofs.put_term.Goals as goal

pub returns : goal.returns
returns c = search term_written
