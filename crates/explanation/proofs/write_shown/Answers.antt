-- `explanation::write_shown` meets its contract. From the laws of Showing and those of target_name on an expansion in an array.
use mathlib.Core.Path.{refl}
use Rattle.std.proofs.Common.{arith}
use Rattle.target_name.proofs.Laws.Expansions.{text_inside, text_whole, expansion_says}
use Rattle.explanation.proofs.Laws.Showing.{shown_written, shown_refused}
use Rattle.explanation.proofs.write_shown.Goals as goal

pub slice_bounds-expanded-end : goal.slice_bounds-expanded-end
slice_bounds-expanded-end c = text_inside _ _ _ _ c.in-Ok.ensures _ refl

pub slice_bounds-put_printable-end : goal.slice_bounds-put_printable-end
slice_bounds-put_printable-end c = text_whole _ _ _ _ c.in-Ok.ensures _ refl

pub returns-in-Ok : goal.returns-in-Ok
returns-in-Ok c =
    shown_written _ _ _ _ (expansion_says _ _ _ _ _ _ _ _ _ c.given-given.ensures.value c.in-Ok.ensures) (omega arith) _ refl _ _ _ c.put_printable.ensures

pub returns-in-Err : goal.returns-in-Err
returns-in-Err c = shown_refused _ _ _ _ (expansion_says _ _ _ _ _ _ _ _ _ c.given-given.ensures.value c.in-Err.ensures) (omega arith) _ refl _
