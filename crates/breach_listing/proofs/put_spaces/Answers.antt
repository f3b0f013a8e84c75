-- `breach_listing::put_spaces` meets its contract. From the laws of Breaches.
use Rattle.breach_listing.proofs.Laws.Breaches.{spaced_start, spaced_next, spaced_end}
use Rattle.breach_listing.proofs.put_spaces.Goals as goal

pub loop-init : goal.loop-init
loop-init c = search spaced_start

pub loop-preserved : goal.loop-preserved
loop-preserved c = search spaced_next

pub returns : goal.returns
returns c = search spaced_end
