-- `items_fit` is the reader's test of items end to end. From the rules of Reading.
use Rattle.std.proofs.Common.{sym, ◌∙◌}
use borrow.Author.Tests.{eqb-true, eqb-false}
use Rattle.text.proofs.Laws.Spans.{rest_part}
use Rattle.answer_table.proofs.Laws.Reading.{fit_none, fit_short, fit_other, fit_next}
use Rattle.answer_table.proofs.items.items_fit.Goals as goal
use Rattle.answer_table.proofs.items.items_fit.Goals.{then-rest-end-via-then-rest-end, then-rest-end-via-else-rest-end+then-not-is_item}

pub returns-then-rest-end : goal.returns-then-rest-end
returns-then-rest-end c = let h = eqb-false _ 0 (sym c.loop-rest-test.ensures) in elim c.then-rest-end.branch [
  | then-rest-end-via-then-rest-end w ↦ sym (fit_short _ _ h _ c.number.ensures w.if-rest-end.true) ∙ c.loop-rest.invariant
  | then-rest-end-via-else-rest-end+then-not-is_item w ↦
      sym (fit_other _ _ h _ c.number.ensures w.if-rest-end.false _ w.is_item.ensures w.if-not-is_item.true) ∙ c.loop-rest.invariant
]

pub loop-rest-preserved : goal.loop-rest-preserved
loop-rest-preserved c =
    let h = eqb-false _ 0 (sym c.loop-rest-test.ensures) in
    rw rest_part (sym (fit_next _ _ h _ c.number.ensures c.if-rest-end.false _ c.is_item.ensures c.if-not-is_item.false) ∙ c.loop-rest.invariant)

pub returns : goal.returns
returns c = sym (fit_none _ _ (eqb-true _ 0 (sym c.loop-rest-test.ensures))) ∙ c.loop-rest.invariant
