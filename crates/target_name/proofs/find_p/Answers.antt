-- `target_name::find_p` meets its contract. From the laws of Asking.
use Rattle.std.proofs.Common.{rules}
use Rattle.target_name.proofs.Laws.Asking.{reversed_inside, reversed_whole, reversed_taken, p_asked}
use Rattle.target_name.proofs.find_p.Goals as goal

pub slice_bounds-name-end : goal.slice_bounds-name-end
slice_bounds-name-end c = reversed_inside _ _ _ _ _ _ c.new-w.ensures.at (simp c.new-w.ensures.out) c.put_reversed_name.ensures.wrote (search rules)

pub slice_bounds-ask_names-end : goal.slice_bounds-ask_names-end
slice_bounds-ask_names-end c = reversed_whole _ _ _ _ _ _ c.new-w.ensures.at (simp c.new-w.ensures.out) c.put_reversed_name.ensures.wrote (search rules)

pub returns : goal.returns
returns c =
    p_asked _ _ (reversed_taken _ _ _ _ _ _ c.new-w.ensures.at (simp c.new-w.ensures.out) c.put_reversed_name.ensures.wrote (search rules)) _ _ _ _ _ _ _ c.ask_names.ensures
