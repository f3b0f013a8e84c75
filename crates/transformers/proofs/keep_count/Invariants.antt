-- `transformers::keep_count` meets its contract. From the laws of Counts.
use Rattle.transformers.proofs.Laws.Counts.{Counted}
use Rattle.transformers.proofs.keep_count.Given as goal

abbrev pub invariant-loop-d : goal.invariant-loop-d
invariant-loop-d l = Counted l.digits l.n l.d-index
