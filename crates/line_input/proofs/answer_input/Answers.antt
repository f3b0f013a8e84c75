-- `line_input::answer_input` meets its contract. From the laws of Answering.
use Rattle.std.proofs.Common.{rules}
use Rattle.line_input.proofs.Laws.Answering.{input_printed}
use Rattle.line_input.proofs.answer_input.Goals as goal

pub returns : goal.returns
returns c = input_printed _ _ _ _ _ _ _ c.new-w.ensures.out c.new-w.ensures.at c.put_printed.ensures.wrote (search rules)
