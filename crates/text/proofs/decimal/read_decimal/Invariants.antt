-- `text::decimal::read_decimal` meets its contract. From the laws of Digits.
use Rattle.text.proofs.Laws.Digits.{Reading}
use Rattle.text.proofs.decimal.read_decimal.Given as goal

abbrev pub invariant-loop-b : goal.invariant-loop-b
invariant-loop-b l = Reading l.limit l.s l.v l.b-index
