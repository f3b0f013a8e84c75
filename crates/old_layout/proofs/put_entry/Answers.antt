-- `put_entry` meets its contract. From the rules.
use Rattle.old_layout.proofs.Laws.Rules.{entry_put}
use Rattle.old_layout.proofs.put_entry.Goals as goal

pub returns : goal.returns
returns c =
    entry_put _ _ c.number-n.ensures _ _ c.part.ensures c.part-2.ensures _ _ _ _ _ c.put_number.ensures c.put_all.ensures c.put_lifetime.ensures
    c.put_all-2.ensures
