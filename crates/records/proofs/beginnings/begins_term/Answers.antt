-- `records::beginnings::begins_term` meets its contract: no end before the place makes a term of the front, which stays in the buffer (Laws.Pointing).
use Rattle.std.proofs.Common.{rules, refl}
use Rattle.records.proofs.Laws.Pointing.{trying_start, trying_room, trying_found, trying_next, trying_none}
use Rattle.records.proofs.beginnings.begins_term.Goals as goal

pub loop-from-init : goal.loop-from-init
loop-from-init c = trying_start _ _ _ c.requires _ refl _ c.part.ensures _ _ c.new-front.ensures.out c.new-front.ensures.at c.put_all.ensures _ (search rules)

pub completes-requires : goal.completes-requires
completes-requires c = search trying_room

pub returns-then-completes : goal.returns-then-completes
returns-then-completes c = search trying_found

pub loop-from-preserved : goal.loop-from-preserved
loop-from-preserved c = search trying_next

pub returns : goal.returns
returns c = search trying_none
