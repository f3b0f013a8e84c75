-- `received::clients::push_byte` meets its contract. From the laws of Reading.
use Rattle.std.proofs.Common.{arith, rules}
use Rattle.received.proofs.Laws.Reading.{push_dot, push_colon, push_digit, group_fits, sum_fits}
use Rattle.received.proofs.clients.push_byte.Goals as goal

pub returns-in-46 : goal.returns-in-46
returns-in-46 c = search push_dot

pub returns-in-58 : goal.returns-in-58
returns-in-58 c = push_colon _ _ _ (λ e. omega arith) c.in-58.is _ _ c.high_on.ensures c.low_on.ensures

pub overflow_mul-result : goal.overflow_mul-result
overflow_mul-result c = search (group_fits, rules)

pub overflow_add-result : goal.overflow_add-result
overflow_add-result c = search (sum_fits, rules)

pub returns-in_default : goal.returns-in_default
returns-in_default c = push_digit _ _ _ (λ e. omega arith) (λ e. omega arith) _ c.digit_value.ensures
