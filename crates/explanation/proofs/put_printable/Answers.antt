-- `explanation::put_printable` meets its contract. From the laws of Showing.
use Rattle.explanation.proofs.Laws.Showing.{printed_all, printed_none}
use Rattle.explanation.proofs.put_printable.Goals as goal

pub returns-then-every : goal.returns-then-every
returns-then-every c = printed_all _ _ c.every.ensures c.if-every.true _ _ c.put_name.ensures

pub returns : goal.returns
returns c = printed_none _ _ c.every.ensures c.if-every.false _
