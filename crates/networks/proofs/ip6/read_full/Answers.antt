-- `networks::ip6::read_full` meets its contract. From the laws of AddressWriting.
use Rattle.std.proofs.Common.{rules}
use Rattle.networks.proofs.Laws.AddressWriting.{full_none, full_other, full_eight}
use Rattle.networks.proofs.ip6.read_full.Goals.{else-is_row-via-then-is_row+else-w-eq16, else-is_row-via-else-is_row}
use Rattle.networks.proofs.ip6.read_full.Goals as goal

pub returns-then-w-eq16 : goal.returns-then-w-eq16
returns-then-w-eq16 c = full_eight _ _ _ _ c.put_row-is_row.ensures.row c.new-w.ensures.at c.if-is_row.true c.if-w-eq16.true (simp c.new-w.ensures.out) _ (search rules) _ c.from_octets.ensures

pub returns : goal.returns
returns c = elim c.else-is_row.branch [
  | else-is_row-via-then-is_row+else-w-eq16 w ↦ full_other _ _ _ _ c.put_row-is_row.ensures.row c.new-w.ensures.at w.if-is_row.true w.if-w-eq16.false
  | else-is_row-via-else-is_row w ↦ full_none _ _ _ _ c.put_row-is_row.ensures.row c.new-w.ensures.at w.if-is_row.false
]
