-- `breach_listing::buffer` meets its contract. From the laws of Breaches.
use Rattle.breach_listing.specs.Lines.{room}
use Rattle.breach_listing.proofs.Laws.Breaches.{so_long}
use Rattle.breach_listing.proofs.buffer.Goals as goal

pub returns : goal.returns
returns c = so_long room
