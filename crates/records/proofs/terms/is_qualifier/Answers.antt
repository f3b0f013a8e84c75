-- `records::terms::is_qualifier` meets its contract. From the laws of Reading.
use Rattle.records.proofs.Laws.Reading.{qualifier_is, qualifier_not}
use Rattle.records.proofs.terms.is_qualifier.Goals as goal

pub returns-in-43 : goal.returns-in-43
returns-in-43 c = qualifier_is _ c.in-43.is

pub returns-in_default : goal.returns-in_default
returns-in_default c = search (qualifier_not, c.in_default)
