-- `publishing::offences::has_p` meets its contract. From the laws of Kinds.
use Rattle.std.proofs.Common.{rules}
use Rattle.publishing.proofs.Laws.Kinds.{p_empty, p_here, p_none}
use Rattle.publishing.proofs.offences.has_p.Goals as goal

pub returns-then-is_empty : goal.returns-then-is_empty
returns-then-is_empty c = search (p_empty, rules)

pub returns-then-uses_p : goal.returns-then-uses_p
returns-then-uses_p c = search p_here

pub returns-else-uses_p : goal.returns-else-uses_p
returns-else-uses_p c = search p_none
