-- `record_listing::put_columns` meets its contract. From the laws of Columns.
use Rattle.record_listing.proofs.Laws.Columns.{columns_written}
use Rattle.record_listing.proofs.put_columns.Goals as goal

pub returns : goal.returns
returns c = search columns_written
