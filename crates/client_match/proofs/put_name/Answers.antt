-- `client_match::put_name` meets its contract. From the laws of Asked.
use Rattle.std.proofs.Common.{rules}
use Rattle.client_match.proofs.Laws.Asked.{front_written}
use Rattle.client_match.proofs.put_name.Goals as goal

pub returns : goal.returns
returns c = front_written _ _ _ _ _ _ _ (search rules) (search rules) c.put_all.ensures.wrote (search (rules, c.well_formed))
