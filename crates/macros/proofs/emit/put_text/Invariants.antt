-- `macros::emit::put_text` meets its contract. From the laws of Emitting.
use mathlib.Core.Path.{◌≡◌}
use lib.ListN.{length}
use Rattle.macros.specs.Expansion.{values_of}
use Rattle.macros.proofs.Laws.Emitting.{Walked}
use Rattle.macros.proofs.emit.put_text.Given as goal

abbrev pub invariant-loop-found : goal.invariant-loop-found
invariant-loop-found l = record {
  walked : Walked (values_of l.letters) l.form l.text l.initial.out.out.now l.initial.out.at l.rest l.out.out.now l.out.at;
  same : l.out.out.ghost_name ≡ l.initial.out.out.ghost_name;
}

abbrev pub decreases-loop-found : goal.decreases-loop-found
decreases-loop-found l = length l.rest
