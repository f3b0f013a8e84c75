-- `text::decimal::read_decimal` meets its contract. From the laws of Digits.
use Rattle.std.proofs.Common.{rules, ◌∙◌}
use borrow.Author.Tests.{tests}
use Rattle.text.proofs.Laws.Digits.{reading_start, reading_next, reading_bad, reading_end, decimal_empty}
use Rattle.text.proofs.decimal.read_decimal.Goals as goal

pub returns-then-is_empty : goal.returns-then-is_empty
returns-then-is_empty c = search (decimal_empty, tests, rules)

pub loop-b-init : goal.loop-b-init
loop-b-init c = search reading_start

pub loop-b-preserved : goal.loop-b-preserved
loop-b-preserved c = search (reading_next, c.in_ok-v.was)

pub returns-in_err-v : goal.returns-in_err-v
returns-in_err-v c = c.from_residual.ensures ∙ search (reading_bad, c.in_err-v.was, tests, rules)

pub returns : goal.returns
returns c = search (reading_end, tests, rules)
