-- `received::reading::value_of` meets its contract. From the laws of Reading.
use Rattle.std.proofs.Common.{rules}
use Rattle.received.proofs.Laws.Reading.{value_held}
use Rattle.received.proofs.reading.value_of.Goals as goal

pub returns : goal.returns
returns c = value_held c.args.s.now c.args.p _ c.of.ensures _ _ _ _ _ c.new-w.ensures.out c.new-w.ensures.at c.put_unescaped.ensures.wrote _ (search rules) _ c.min.ensures (search (rules, c.well_formed))
