-- `target_name::write_target` meets its contract. From the laws of Expansions and Naming.
use mathlib.Core.Path.{refl}
use Rattle.std.proofs.Common.{arith}
use Rattle.target_name.proofs.Laws.Expansions.{text_inside, text_whole, expansion_says}
use Rattle.target_name.proofs.Laws.Naming.{target_written, target_long}
use Rattle.target_name.proofs.write_target.Goals as goal

pub slice_bounds-text-end : goal.slice_bounds-text-end
slice_bounds-text-end c = text_inside _ _ _ _ c.in-Ok.ensures _ refl

pub slice_bounds-question_name-end : goal.slice_bounds-question_name-end
slice_bounds-question_name-end c = text_whole _ _ _ _ c.in-Ok.ensures _ refl

pub returns-in-Ok : goal.returns-in-Ok
returns-in-Ok c =
    target_written _ _ _ _ (expansion_says _ _ _ _ _ _ _ _ _ c.given-given.ensures.value c.in-Ok.ensures) _ refl _ _ _ c.requires c.question_name.ensures.value
    c.question_name.ensures.out_after

pub returns-in-Err : goal.returns-in-Err
returns-in-Err c = target_long _ _ _ _ (expansion_says _ _ _ _ _ _ _ _ _ c.given-given.ensures.value c.in-Err.ensures) (omega arith) _ refl _
