-- `target_name::find_p_for` meets its contract. From the laws of Expansions.
use mathlib.Core.Path.{refl}
use Rattle.target_name.proofs.Laws.Expansions.{p_used, p_unused}
use Rattle.target_name.proofs.find_p_for.Goals as goal

pub returns-then-uses_p : goal.returns-then-uses_p
returns-then-uses_p c = p_used _ _ _ _ _ _ c.uses_p.ensures _ c.if-uses_p.true _ _ _ _ c.find_p.ensures

pub returns : goal.returns
returns c = p_unused _ _ _ _ _ _ c.uses_p.ensures _ c.if-uses_p.false _ refl _
