-- `mechanism_lookups::ask_ptr` meets its contract. From the laws of Replies.
use Rattle.std.proofs.Common.{rules}
use Rattle.mechanism_lookups.proofs.Laws.Replies.{ptr_says, name_inside, name_whole}
use Rattle.mechanism_lookups.proofs.ask_ptr.Goals as goal

pub slice_bounds-reversed-end : goal.slice_bounds-reversed-end
slice_bounds-reversed-end c = name_inside _ _ _ _ _ _ _ c.new-w.ensures.out c.new-w.ensures.at c.put_reversed_name.ensures.wrote (search rules) (search (rules, c.well_formed))

pub slice_bounds-ask_pointers-end : goal.slice_bounds-ask_pointers-end
slice_bounds-ask_pointers-end c = name_whole _ _ _ _ _ _ _ c.new-w.ensures.out c.new-w.ensures.at c.put_reversed_name.ensures.wrote (search rules) (search (rules, c.well_formed))

pub returns : goal.returns
returns c = ptr_says _ _ _ _ _ _ _ c.new-w.ensures.out c.new-w.ensures.at c.put_reversed_name.ensures.wrote (search rules) _ _ _ _ _ _ _ c.ask_pointers.ensures (search (rules, c.well_formed))
