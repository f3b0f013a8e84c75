-- `breach_listing::put_breaches` meets its contract. From the laws of Walking.
use Rattle.std.specs.Slice.Iter.{chunks_exact_rest, chunks_exact_size}
use mathlib.Core.Path.{◌≡◌}
use Rattle.breach_listing.proofs.Laws.Walking.{Walked}
use Rattle.breach_listing.proofs.put_breaches.Given as goal

abbrev pub invariant-loop-breach : goal.invariant-loop-breach
invariant-loop-breach l =
    (chunks_exact_size l.breach-iterator ≡ 3) × Walked l.s l.list l.initial.out (chunks_exact_rest l.breach-iterator) l.out
