-- `received::quoting::put_form` meets its contract. From the laws of Quoting.
use Rattle.received.proofs.Laws.Quoting.{form_plain, form_quoted}
use Rattle.received.proofs.quoting.put_form.Goals as goal

pub returns-then-is_dot_atom_text : goal.returns-then-is_dot_atom_text
returns-then-is_dot_atom_text c = search form_plain

pub returns-else-is_dot_atom_text : goal.returns-else-is_dot_atom_text
returns-else-is_dot_atom_text c = search form_quoted
