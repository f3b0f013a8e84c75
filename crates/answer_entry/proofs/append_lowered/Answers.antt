-- `append_lowered` meets its contract. From the rules.
use Rattle.std.proofs.Common.{rules, arith}
use lib.ListN.{length-take}
use Rattle.answer_entry.proofs.Laws.Rules.{checked_short, lowered_found, lowered_added, lowered_unfit}
use Rattle.answer_entry.proofs.append_lowered.Goals as goal

pub slice_bounds-find-end-2 : goal.slice_bounds-find-end-2
slice_bounds-find-end-2 c = simp length-take (omega arith)

pub returns-then-is_some : goal.returns-then-is_some
returns-then-is_some c = search lowered_found

pub is_fit-requires : goal.is_fit-requires
is_fit-requires c = search (checked_short, rules)

pub returns-then-not-is_fit : goal.returns-then-not-is_fit
returns-then-not-is_fit c = search lowered_unfit

pub returns : goal.returns
returns c =
    lowered_added _ _ _ _ _ _ _ _ c.requires.0 _ c.find.ensures.value _ c.is_some.ensures c.if-is_some.false _ c.is_fit.ensures c.if-not-is_fit.false
    (search rules) c.requires.1 _ _ c.put_entry.ensures.wrote _ (search rules)
