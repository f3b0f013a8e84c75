-- `answer_input` meets its contract. From the laws of Answering.
use Rattle.std.proofs.Common.{rules}
use Rattle.check_input.proofs.Laws.Answering.{input_answered}
use Rattle.check_input.proofs.answer_input.Goals as goal

pub returns : goal.returns
returns c = input_answered _ _ _ _ _ _ _ _ c.field.ensures c.field-2.ensures c.field-3.ensures c.field-4.ensures c.field-5.ensures c.field-6.ensures c.after_fields.ensures
    _ _ _ _ _ _ c.requires c.new-w.ensures.out c.new-w.ensures.at c.answer_lines.ensures.wrote (search (rules, c.well_formed))
