-- `record_lookup::one_more` meets its contract. From the rules of Laws.Picks.
use Rattle.record_lookup.proofs.Laws.Picks.{more_first, more_several, more_second}
use Rattle.record_lookup.proofs.one_more.Goals as goal

pub returns-in-Nothing : goal.returns-in-Nothing
returns-in-Nothing c = search more_first

pub returns-in-Several : goal.returns-in-Several
returns-in-Several c = search more_several

pub returns-in-One : goal.returns-in-One
returns-in-One c = search more_second
