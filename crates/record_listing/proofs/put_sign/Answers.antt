-- `record_listing::put_sign` meets its contract. From the laws of Columns.
use Rattle.record_listing.proofs.Laws.Columns.{sign_written}
use Rattle.record_listing.proofs.put_sign.Goals as goal

pub returns : goal.returns
returns c = search sign_written
