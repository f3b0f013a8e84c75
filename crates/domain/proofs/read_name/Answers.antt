-- `domain::read_name` meets its contract, which is that of `write_lowered` for the text without its dot.
use Rattle.domain.proofs.Laws.Lowering.{read_answer, read_buffer}
use Rattle.domain.proofs.read_name.Goals as goal

pub returns : goal.returns
returns c = record { value = search read_answer; out_after = search read_buffer }
