-- `networks::ip6::put_last` meets its contract. From the laws of RowWriting.
use Rattle.std.proofs.Common.{rules, refl}
use Rattle.networks.proofs.Laws.RowWriting.{last_tail, last_group, last_none}
use Rattle.networks.proofs.ip6.put_last.Goals as goal

pub returns-then-tail : goal.returns-then-tail
returns-then-tail c = record { row = search last_tail; same = search rules }

pub returns : goal.returns
returns c = record { row = search last_group; same = search rules }

pub returns-else-tail : goal.returns-else-tail
returns-else-tail c = record { row = last_none _ _ _ _ c.read_h16.ensures c.in_default.is c.if-tail.false _ _ refl; same = search rules }
