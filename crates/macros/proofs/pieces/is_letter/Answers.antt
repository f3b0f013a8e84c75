-- `macros::pieces::is_letter` meets its contract. From the laws of Reading.
use Rattle.macros.proofs.Laws.Reading.{letter_domain, letter_other}
use Rattle.macros.proofs.pieces.is_letter.Goals as goal

pub returns-in-DomainSpec : goal.returns-in-DomainSpec
returns-in-DomainSpec c = search letter_domain

pub returns-in-ModifierValue : goal.returns-in-ModifierValue
returns-in-ModifierValue c = letter_other _ _ _ c.to_lower-in-ModifierValue.ensures _ c.in-ModifierValue.is c.contains-in-ModifierValue.ensures
