-- `received::unquote` meets its contract. From the laws of Quoting.
use Rattle.std.proofs.Common.{rules}
use Rattle.received.proofs.Laws.Quoting.{unquote_long, strip_short, unquote_short}
use Rattle.received.proofs.unquote.Goals as goal

pub returns-then-n-gt-MOST_VALUE : goal.returns-then-n-gt-MOST_VALUE
returns-then-n-gt-MOST_VALUE c = unquote_long _ _ _ c.args.part.now _ _ c.new-w.ensures.at c.put_unescaped.ensures.wrote (simp c.new-w.ensures.out) _ c.if-n-gt-MOST_VALUE.true

pub write_value-requires : goal.write_value-requires
write_value-requires c = strip_short _ _ _ _ _ _ c.new-w.ensures.at c.put_unescaped.ensures.wrote (simp c.new-w.ensures.out) c.args.out.now c.if-n-gt-MOST_VALUE.false (search rules) _
    c.part.ensures

pub returns : goal.returns
returns c = unquote_short _ _ _ _ _ _ c.new-w.ensures.at c.put_unescaped.ensures.wrote (simp c.new-w.ensures.out) _ c.if-n-gt-MOST_VALUE.false (search rules) _ c.part.ensures _ _
    c.write_value.ensures
