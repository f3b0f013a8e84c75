-- `text::decimal::read_number` meets its contract. From the laws of Digits.
use Rattle.text.proofs.Laws.Digits.{number_zero, number_more, number_one}
use Rattle.text.proofs.decimal.read_number.Goals.{else-s-gt1-via-then-s-gt1+else-s-eq48, else-s-gt1-via-else-s-gt1}
use Rattle.text.proofs.decimal.read_number.Goals as goal

pub returns-then-s-eq48 : goal.returns-then-s-eq48
returns-then-s-eq48 c = search number_zero

pub returns : goal.returns
returns c = elim c.else-s-gt1.branch [ else-s-gt1-via-then-s-gt1+else-s-eq48 w ↦ search number_more | else-s-gt1-via-else-s-gt1 w ↦ search number_one ]
