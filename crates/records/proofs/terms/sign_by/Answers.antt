-- `records::terms::sign_by` meets its contract. From the laws of Tests.
use Rattle.records.specs.Reader.{sign_by}
use Rattle.text.proofs.Laws.Tests.{ways}
use Rattle.records.proofs.terms.sign_by.Goals as goal

pub returns-then-is_qualifier : goal.returns-then-is_qualifier
unfolding sign_by
returns-then-is_qualifier c = search ways

pub returns-else-is_qualifier : goal.returns-else-is_qualifier
unfolding sign_by
returns-else-is_qualifier c = search ways
