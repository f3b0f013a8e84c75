-- `publishing::offences::put_found` meets its contract. From the laws of Answers.
use Rattle.std.proofs.Common.{rules, ◌≡◌, ◌||◌}
use Rattle.publishing.proofs.Laws.Walking.{or_holds, or_rest}
use Rattle.publishing.proofs.Laws.Answers.{found_wrote}
use Rattle.publishing.proofs.offences.put_found.Goals.{then-whole, else-whole}
use Rattle.publishing.proofs.offences.put_found.Goals as goal

pub returns : goal.returns
returns c =
    let x = c.survey-whole.result in
    let e : c.if-whole.put_end ≡ (x.all || x.redirect) =
    elim c.if-whole.branch [ then-whole w ↦ or_holds _ _ _ w.if-whole.true w.put_end-is | else-whole w ↦ or_rest _ _ _ w.if-whole.false w.put_end-is ] in
    found_wrote _ _ _ _ _ _ c.survey-whole.ensures (search rules) _ c.mark_duplicates.ensures.marks _ _ _ c.put_offences.ensures _ e c.put_end.ensures
