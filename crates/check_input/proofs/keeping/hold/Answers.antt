-- `check_input::keeping::hold` meets its contract. From the laws of Holding.
use Rattle.std.proofs.Common.{rules}
use Rattle.check_input.proofs.Laws.Holding.{held_written}
use Rattle.check_input.proofs.keeping.hold.Goals as goal

pub returns : goal.returns
returns c = held_written _ _ _ _ _ c.requires.n_le_most_kept c.requires.chunk_len_bound c.requires.held_room_in_bounds c.part.ensures _ _ _ (search rules)
    c.put_all.ensures.wrote _ c.part-2.ensures _ c.room-space.ensures _ _ _ _ _ c.new-kept.ensures.out c.new-kept.ensures.at (search rules) c.keep.ensures.wrote
    _ c.part-3.ensures _ _ _ _ _ c.new-front.ensures.out c.new-front.ensures.at (search rules) c.put_all-2.ensures.wrote
