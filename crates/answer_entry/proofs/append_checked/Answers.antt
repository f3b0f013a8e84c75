-- `append_checked` meets its contract. From the rules and what is read back of a written array.
use Rattle.std.proofs.Common.{rules}
use Rattle.answer_entry.proofs.Laws.Rules.{lowered_inside, lowered_length, lowered_through, checked_long}
use Rattle.answer_entry.proofs.append_checked.Goals as goal

pub returns-then-entry-gt-MOST_NAME : goal.returns-then-entry-gt-MOST_NAME
returns-then-entry-gt-MOST_NAME c = search checked_long

pub slice_bounds-lowered-end : goal.slice_bounds-lowered-end
slice_bounds-lowered-end c = lowered_inside _ c.if-entry-gt-MOST_NAME.false _ (simp c.new-out.ensures.out) _ c.new-out.ensures.at _ _ c.put_lowered.ensures.wrote _ (search rules)

pub append_lowered-requires : goal.append_lowered-requires
append_lowered-requires c = (c.requires, lowered_length _ c.if-entry-gt-MOST_NAME.false _ (simp c.new-out.ensures.out) _ c.new-out.ensures.at _ _ c.put_lowered.ensures.wrote _ (search rules))

pub returns : goal.returns
returns c = lowered_through _ c.if-entry-gt-MOST_NAME.false _ (simp c.new-out.ensures.out) _ c.new-out.ensures.at _ _ c.put_lowered.ensures.wrote _ (search rules) _ _ _ _ _ _ _ _ c.append_lowered.ensures
