-- `numbers::put_front` meets its contract.
use Rattle.std.proofs.Common.{rules}
use Rattle.client_match.proofs.Laws.Asked.{front_written}
use Rattle.talavorn.proofs.numbers.put_front.Goals as goal

pub returns : goal.returns
returns c = front_written _ _ _ _ _ _ _ c.new-w.ensures.out c.new-w.ensures.at c.put_all.ensures.wrote (search (rules, c.well_formed))
