-- `records::terms::is_modifier` meets its contract. From the laws of Tests.
use Rattle.records.proofs.Laws.Reading.{and_eq, and_ne}
use Rattle.records.proofs.terms.is_modifier.Goals as goal

pub returns-then-i-eq0 : goal.returns-then-i-eq0
returns-then-i-eq0 c = search and_eq

pub returns-else-i-eq0 : goal.returns-else-i-eq0
returns-else-i-eq0 c = search and_ne
