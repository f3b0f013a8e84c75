-- `record_listing::put_refusal` meets its contract. From the laws of Walking.
use Rattle.record_listing.proofs.Laws.Walking.{refusal_written}
use Rattle.record_listing.proofs.put_refusal.Goals as goal

pub returns : goal.returns
returns c = search refusal_written
