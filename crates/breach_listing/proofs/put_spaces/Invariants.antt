-- `breach_listing::put_spaces` meets its contract. From the laws of Breaches.
use Rattle.breach_listing.proofs.Laws.Breaches.{Spaced}
use Rattle.breach_listing.proofs.put_spaces.Given as goal

abbrev pub invariant-loop : goal.invariant-loop
invariant-loop l = Spaced l.n l.initial.out l.out l.counter
