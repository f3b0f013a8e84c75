-- `target_name::make_target_or` meets its contract. From the laws of Naming.
use Rattle.target_name.proofs.Laws.Naming.{or_given, or_current}
use Rattle.target_name.proofs.make_target_or.Goals as goal

pub returns-in_default : goal.returns-in_default
returns-in_default c = or_current _ _ _ _ _ c.in_default.is c.requires.0 _ _ c.requires.1 c.put_name.ensures _

pub returns : goal.returns
returns c = or_given _ _ _ _ _ _ c.in-Some.is _ _ _ _ _ c.make_target.ensures
