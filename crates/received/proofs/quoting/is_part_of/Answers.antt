-- `received::quoting::is_part_of` meets its contract. From the laws of Quoting.
use Rattle.std.proofs.Common.{rules}
use Rattle.received.proofs.Laws.Quoting.{again_same}
use Rattle.received.proofs.quoting.is_part_of.Goals as goal

pub returns : goal.returns
returns c = again_same _ _ _ _ _ _ _ c.new-w.ensures.at c.put_escaped.ensures.wrote (search rules) (simp c.new-w.ensures.out) c.requires c.part.ensures _ _ c.equal.ensures
