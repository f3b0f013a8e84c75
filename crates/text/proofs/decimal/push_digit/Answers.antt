-- `text::decimal::push_digit` meets its contract. From the laws of Digits.
use Rattle.std.proofs.Common.{rules, ◌∙◌}
use Rattle.text.proofs.Laws.Digits.{digit_least, push_mul_over, push_add_over, push_up_to, push_no_digit}
use Rattle.text.proofs.decimal.push_digit.Goals as goal

pub returns-then-not-is_within : goal.returns-then-not-is_within
returns-then-not-is_within c = search push_no_digit

pub returns-in_err-checked_mul : goal.returns-in_err-checked_mul
returns-in_err-checked_mul c = c.from_residual.ensures ∙ push_mul_over _ _ _ _ c.is_within.ensures (search rules) c.if-not-is_within.false c.in_err-checked_mul.ensures

pub overflow_sub-b : goal.overflow_sub-b
overflow_sub-b c = search digit_least

pub returns-in_err-next : goal.returns-in_err-next
returns-in_err-next c =
    c.from_residual-in_err-next.ensures
    ∙ push_add_over _ _ _ _ c.is_within.ensures (search rules) _ c.if-not-is_within.false c.in_ok-checked_mul.ensures.1 c.in_err-next.ensures

pub returns : goal.returns
returns c = c.then_some.ensures ∙ push_up_to _ _ _ _ c.is_within.ensures _ _ c.if-not-is_within.false c.in_ok-checked_mul.ensures.1 c.in_ok-next.ensures.1
