-- `records::terms::read_modifier` meets its contract. From the laws of Reading.
use Rattle.records.proofs.Laws.Reading.{modifier_explanation, modifier_first, modifier_redirect, modifier_unknown}
use Rattle.records.proofs.terms.read_modifier.Goals as goal

pub returns-then-equal_word : goal.returns-then-equal_word
returns-then-equal_word c = search modifier_redirect

pub returns-then-equal_word-2 : goal.returns-then-equal_word-2
returns-then-equal_word-2 c = search modifier_explanation

pub returns-then-is_in : goal.returns-then-is_in
returns-then-is_in c = search modifier_unknown

pub returns : goal.returns
returns c = search modifier_first
