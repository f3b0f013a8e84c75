-- `received::quoting::is_dot_atom_text` meets its contract. From the laws of Folding.
use Rattle.received.specs.States.{fold, atom_step}
use Rattle.received.specs.declared.quoting.Atoms.TheVariants.{Before}
use mathlib.Core.Path.{◌≡◌}
use lib.ListN.{drop}
use Rattle.received.proofs.quoting.is_dot_atom_text.Given as goal

abbrev pub invariant-loop-b : goal.invariant-loop-b
invariant-loop-b l = fold atom_step l.state (drop l.b-index l.s) ≡ fold atom_step Before l.s
