-- `record_listing::list_input` meets its contract. From the laws of Walking.
use Rattle.record_listing.proofs.Laws.Walking.{input_listed}
use Rattle.record_listing.proofs.list_input.Goals as goal

pub returns : goal.returns
returns c = search input_listed
