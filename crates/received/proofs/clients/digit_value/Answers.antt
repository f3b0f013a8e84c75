-- `received::clients::digit_value` meets its contract. From the laws of Reading.
use Rattle.std.proofs.Common.{arith}
use Rattle.received.proofs.Laws.Reading.{digit_low, digit_high}
use Rattle.received.proofs.clients.digit_value.Goals as goal

pub returns-then-b-lt58 : goal.returns-then-b-lt58
returns-then-b-lt58 c = digit_low _ (omega arith) (omega arith) _ (omega arith)

pub returns-else-b-lt58 : goal.returns-else-b-lt58
returns-else-b-lt58 c = digit_high _ (omega arith) (omega arith) _ (omega arith)
