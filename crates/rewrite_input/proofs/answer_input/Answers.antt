-- `rewrite_input::answer_input` meets its contract. From the laws of Answering.
use Rattle.std.proofs.Common.{rules}
use Rattle.rewrite_input.proofs.Laws.Answering.{written_printed, line_printed}
use Rattle.rewrite_input.proofs.answer_input.Goals as goal

pub returns-in-Ok : goal.returns-in-Ok
returns-in-Ok c = search written_printed

pub returns-in-Err : goal.returns-in-Err
returns-in-Err c =
    line_printed _ _ c.requires _ _ c.add_lifetimes.ensures _ c.in-Err.is _ _ c.new-line.ensures.out c.new-line.ensures.at c.put_error.ensures _ (search rules)
