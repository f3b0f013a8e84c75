-- `record_listing::put_terms` meets its contract. From the laws of Walking.
use Rattle.record_listing.proofs.Laws.Walking.{Walking}
use Prim.Native.Nat.{◌-◌}
use mathlib.Core.Path.{◌≡◌}
use lib.ListN.{length}
use Rattle.record_listing.proofs.put_terms.Given as goal

abbrev pub invariant-loop-read : goal.invariant-loop-read
invariant-loop-read l = record { walking : Walking l.s l.start l.initial.out l.i l.out; same : l.out.out.ghost_name ≡ l.initial.out.out.ghost_name }

abbrev pub decreases-loop-read : goal.decreases-loop-read
decreases-loop-read l = length l.s - l.i
