-- `networks::ip6::put_tail` meets its contract. From the laws of RowWriting.
use Rattle.std.proofs.Common.{rules}
use Rattle.networks.proofs.Laws.RowWriting.{tail_none, tail_six, tail_four}
use Rattle.networks.proofs.ip6.put_tail.Goals as goal

pub returns-in-Some-IPv4 : goal.returns-in-Some-IPv4
returns-in-Some-IPv4 c = record { row = search tail_four; same = search rules }

pub returns-in-Some-IPv6 : goal.returns-in-Some-IPv6
returns-in-Some-IPv6 c = record { row = search tail_six; same = search rules }

pub returns-in-None : goal.returns-in-None
returns-in-None c = record { row = search tail_none; same = search rules }
