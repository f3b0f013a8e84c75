-- `networks::ip6::put_side` meets its contract. From the laws of RowWriting.
use Rattle.std.proofs.Common.{rules}
use Rattle.networks.proofs.Laws.RowWriting.{side_none, side_row}
use Rattle.networks.proofs.ip6.put_side.Goals as goal

pub returns-then-s-eq0 : goal.returns-then-s-eq0
returns-then-s-eq0 c = record { row = search side_none; same = search rules }

pub returns : goal.returns
returns c = record { row = search side_row; same = search rules }
