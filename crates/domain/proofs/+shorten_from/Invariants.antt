-- `domain::shorten_from` meets its contract. From the laws of shortening: one for each step. It ends since less of the name is left after the
-- next dot.
use lib.ListN.{length}
use Prim.Native.Nat.{◌-◌}
use Rattle.domain.proofs.+shorten_from.Given as goal

abbrev pub decreases-shorten_from : goal.decreases-shorten_from
decreases-shorten_from l = length l.s.now - l.at
