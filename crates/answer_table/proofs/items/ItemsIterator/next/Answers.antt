-- `Items::next` gives the first of the items that are left. From the rules of Reading.
use native.Mathlib.Omega.{arith}
use mathlib.Core.Path.{sym, ap, ◌∙◌}
use borrow.Author.Tests.{eqb-true, eqb-false}
use lib.ListN.{length}
use Rattle.answer_table.proofs.Laws.Reading.{left_none, left_some}
use Rattle.answer_table.proofs.items.ItemsIterator.next.Goals as goal

pub returns-then-is_empty-clause-steps : goal.returns-then-is_empty-clause-steps
returns-then-is_empty-clause-steps c =
    let s = c.self.inside.rest.now in
    let e = sym c.self.view_is ∙ left_none s (eqb-true (length s) 0 (sym c.if-is_empty.ensures)) in (e, e)

pub returns-clause-steps : goal.returns-clause-steps
returns-clause-steps c =
    let s = c.self.inside.rest.now in
    sym c.self.view_is
    ∙ left_some s (eqb-false (length s) 0 (sym c.if-is_empty.ensures)) c.number.result c.number.ensures _ c.part-self-inside.ensures _ c.part.ensures

pub returns-clause-goes : goal.returns-clause-goes
returns-clause-goes c =
    let e = ap length (returns-clause-steps c) in record { on = λ _. (tt, tt, omega (arith, e)); keeps = tt; rests = λ _. tt }
