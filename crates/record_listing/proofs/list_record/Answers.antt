-- `record_listing::list_record` meets its contract. From the laws of Walking.
use Rattle.std.proofs.Common.{rules}
use Rattle.record_listing.proofs.Laws.Walking.{shown_listed}
use Rattle.record_listing.proofs.list_record.Goals as goal

pub returns : goal.returns
returns c = shown_listed _ _ _ _ c.requires c.new-w.ensures.out c.new-w.ensures.at c.put_listing.ensures.shown _ (search rules)
