-- `macros::question_name` meets its contract. From the laws of Expanding.
use Rattle.macros.proofs.Laws.Expanding.{long_answer, long_buffer, short_answer, short_buffer}
use Rattle.macros.proofs.question_name.Goals as goal

pub returns-then-text-gt4096 : goal.returns-then-text-gt4096
returns-then-text-gt4096 c = record { value = search long_answer; out_after = search long_buffer }

pub returns : goal.returns
returns c = record { value = search short_answer; out_after = search short_buffer }
