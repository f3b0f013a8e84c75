-- `received::quoting::is_dot_atom_text` meets its contract. From the laws of Folding and Atoms.
use Rattle.received.proofs.Laws.Folding.{fold_next}
use Rattle.received.proofs.Laws.Atoms.{dot_yes, dot_no}
use Rattle.received.proofs.quoting.is_dot_atom_text.Goals as goal

pub loop-b-preserved : goal.loop-b-preserved
loop-b-preserved c = search fold_next

pub returns-in-Within : goal.returns-in-Within
returns-in-Within c = search dot_yes

pub returns-in_default : goal.returns-in_default
returns-in_default c = search dot_no
