-- `networks::ip6::hex_value` meets its contract. From the laws of HexNumbers.
use Rattle.text.proofs.Laws.Digits.{digit_least}
use Rattle.networks.proofs.Laws.HexNumbers.{hex_digit_lem, hex_none, hex_letter}
use Rattle.networks.proofs.ip6.hex_value.Goals as goal

pub overflow_sub-result : goal.overflow_sub-result
overflow_sub-result c = search digit_least

pub returns-then-is_within : goal.returns-then-is_within
returns-then-is_within c = search hex_digit_lem

pub returns-then-letter-lt87 : goal.returns-then-letter-lt87
returns-then-letter-lt87 c = search hex_none

pub returns : goal.returns
returns c = search hex_letter
