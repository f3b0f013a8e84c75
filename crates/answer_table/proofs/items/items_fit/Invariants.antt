-- `items_fit` is the reader's test of items end to end. The loop's invariant: the items left fit if and only if all do.
use Rattle.answer_table.specs.Reader.{items_fit}
use lib.ListN.{length}
use mathlib.Core.Path.{◌≡◌}
use Rattle.answer_table.proofs.items.items_fit.Given as goal

abbrev pub invariant-loop-rest : goal.invariant-loop-rest
invariant-loop-rest l = items_fit l.kind l.rest ≡ items_fit l.kind l.s

abbrev pub decreases-loop-rest : goal.decreases-loop-rest
decreases-loop-rest l = length l.rest
