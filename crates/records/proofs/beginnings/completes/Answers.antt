-- `records::beginnings::completes` meets its contract. From the law of writing after a front (Laws.Pointing).
use Rattle.std.proofs.Common.{rules}
use Rattle.records.specs.Beginnings.{is_term}
use Rattle.records.proofs.Laws.Pointing.{completed, front_kept}
use Rattle.records.proofs.beginnings.completes.Goals as goal

pub returns : goal.returns
unfolding is_term
returns c = record {
  value = completed _ _ _ _ c.requires _ c.run_end-to.ensures _ c.part.ensures _ _ c.put_all.ensures.wrote _ (search rules) _ c.part-2.ensures _ c.read_token.ensures _ c.is_some.ensures;
  room_unchanged = front_kept _ _ _ _ c.requires _ c.run_end-to.ensures _ c.part.ensures _ _ c.put_all.ensures.wrote _ (search rules);
}
