-- `networks::ip6::read_short` meets its contract. From the laws of AddressWriting.
use Rattle.std.proofs.Common.{rules}
use Rattle.networks.proofs.Laws.AddressWriting.{short_no_left, short_no_right, short_over, short_filled}
use Rattle.networks.proofs.ip6.read_short.Goals as goal

pub returns-then-not-put_side : goal.returns-then-not-put_side
returns-then-not-put_side c = short_no_left _ _ _ _ _ c.put_side.ensures.row c.new-left.ensures.at c.if-not-put_side.true

pub returns-then-not-put_side-2 : goal.returns-then-not-put_side-2
returns-then-not-put_side-2 c = short_no_right _ _ _ _ _ c.put_side.ensures.row c.new-left.ensures.at c.if-not-put_side.false _ _ _ c.put_side-2.ensures.row c.new-right.ensures.at c.if-not-put_side-2.true

pub returns-then-leave_group : goal.returns-then-leave_group
returns-then-leave_group c =
    short_filled _ _ _ _ _ c.put_side.ensures.row c.new-left.ensures.at c.if-not-put_side.false _ _ _ c.put_side-2.ensures.row c.new-right.ensures.at
    c.if-not-put_side-2.false _ c.leave_group.ensures c.if-leave_group.true (simp c.new-left.ensures.out) (simp c.new-right.ensures.out) _ (search rules) _ (search rules) _ _
    c.put_all.ensures.wrote _ (search rules) _ c.from_octets.ensures

pub returns : goal.returns
returns c = short_over _ _ _ _ _ c.put_side.ensures.row c.new-left.ensures.at c.if-not-put_side.false _ _ _ c.put_side-2.ensures.row c.new-right.ensures.at c.if-not-put_side-2.false _ c.leave_group.ensures c.if-leave_group.false
