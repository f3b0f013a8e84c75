-- `domain::shorten_from` meets its contract. From the laws of shortening: one for each step. It ends since less of the name is left after the
-- next dot.
use Rattle.std.proofs.Common.{rules, arith}
use Rattle.domain.proofs.Laws.Shortening.{shorten_same, shorten_last, shorten_less, shorten_on}
use Rattle.domain.proofs.+shorten_from.Goals as goal

pub returns-then-s-at-le-MOST_NAME : goal.returns-then-s-at-le-MOST_NAME
returns-then-s-at-le-MOST_NAME t c = (search rules, search shorten_same)

pub shorten_from-requires : goal.shorten_from-requires
shorten_from-requires t c = (omega (arith, shorten_on _ _ _ c.run_end-dot.ensures), search rules)

pub returns-then-dot-s : goal.returns-then-dot-s
returns-then-dot-s t c = (search rules, search shorten_less)

pub returns : goal.returns
returns t c = (search rules, search shorten_last)
