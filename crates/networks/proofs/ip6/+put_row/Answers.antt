-- `networks::ip6::put_row` meets its contract. From the laws of RowWriting.
use Rattle.std.proofs.Common.{rules, arith}
use lib.ListN.{length-take}
use Rattle.networks.proofs.Laws.RowWriting.{row_last, row_bad, row_more}
use Rattle.networks.proofs.ip6.+put_row.Goals as goal

pub returns-then-s-k : goal.returns-then-s-k
returns-then-s-k t c = record { row = search row_last; same = search rules }

pub slice_bounds-read_h16-end : goal.slice_bounds-read_h16-end
slice_bounds-read_h16-end t c = simp length-take (omega arith)

pub returns-in_default : goal.returns-in_default
returns-in_default t c = record { row = search row_bad; same = search rules }

pub returns : goal.returns
returns t c = record { row = search row_more; same = search rules }
