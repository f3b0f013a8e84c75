-- `received::quoting::write_value` meets its contract. From the laws of Quoting.
use Rattle.std.proofs.Common.{rules}
use Rattle.received.proofs.Laws.Quoting.{value_written, value_over, value_other, value_unprintable}
use Rattle.received.proofs.quoting.write_value.Goals as goal

pub returns-then-not-every : goal.returns-then-not-every
returns-then-not-every c = search value_unprintable

pub returns-then-not-is_part_of : goal.returns-then-not-is_part_of
returns-then-not-is_part_of c = search value_other

pub returns-then-out-v : goal.returns-then-out-v
returns-then-out-v c = search value_over

pub returns : goal.returns
returns c = value_written _ _ _ _ c.every.ensures c.if-not-every.false _ c.is_part_of.ensures c.if-not-is_part_of.false c.if-out-v.false _ _ _ c.new.ensures.out (search rules) _ _
    c.new.ensures.at c.put_all.ensures.wrote
