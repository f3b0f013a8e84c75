-- `target_name::choose` meets its contract. From the laws of Choosing.
use mathlib.Core.Path.{◌∙◌}
use Rattle.text.proofs.Laws.Words.{pointwise_same}
use Rattle.target_name.proofs.Laws.Choosing.{choose_current, choose_later}
use Rattle.target_name.proofs.choose.Goals as goal

pub returns-then-eq : goal.returns-then-eq
returns-then-eq c = choose_current _ _ _ _ (c.eq.ensures ∙ pointwise_same _ _) c.if-eq.true

pub returns : goal.returns
returns c = choose_later _ _ _ _ (c.eq.ensures ∙ pointwise_same _ _) c.if-eq.false _ c.at_or_below.ensures _ c.later_choice.ensures
