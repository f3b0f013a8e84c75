-- `received::lines::write_fitting` meets its contract. From the laws of Lines.
use Rattle.std.proofs.Common.{rules}
use Rattle.received.proofs.Laws.Lines.{line_over, line_fits}
use Rattle.received.proofs.lines.write_fitting.Goals as goal

pub returns-then-min-measured : goal.returns-then-min-measured
returns-then-min-measured c = line_over _ _ _ _ _ c.new-measured.ensures.at c.put_line.ensures.wrote _ _ c.min.ensures c.if-min-measured.true

pub returns : goal.returns
returns c = line_fits _ _ _ _ _ c.new-measured.ensures.at c.put_line.ensures.wrote _ _ c.min.ensures c.if-min-measured.false _ _ _ c.new-w.ensures.out (search rules) _ _ c.new-w.ensures.at
    c.put_line-2.ensures.wrote
