-- `records::opening::modifiers_of` meets its contract. From what `modifier_at` promises, for redirect and for exp.
use Rattle.records.proofs.opening.modifiers_of.Goals as goal

pub returns : goal.returns
returns c = cc
