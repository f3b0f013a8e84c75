-- `breach_listing::answer_input` meets its contract. From the laws of Answering.
use Rattle.std.proofs.Common.{rules}
use Rattle.breach_listing.proofs.Laws.Answering.{input_printed}
use Rattle.breach_listing.proofs.answer_input.Goals as goal

pub returns : goal.returns
returns c =
    input_printed _ _ _ _ _ _ _ _ c.field.ensures c.after_fields.ensures c.without_newline.ensures c.new-writer.ensures.at c.new-writer.ensures.out
    (search rules) c.lint.ensures
