-- `domain::write_lowered` meets its contract. From the laws of Lowering.
use Rattle.std.proofs.Common.{rules}
use Rattle.domain.proofs.Laws.Lowering.{write_answer, write_buffer, refuse_answer, refuse_buffer}
use Rattle.domain.proofs.write_lowered.Goals as goal

pub returns-then-not-is_name : goal.returns-then-not-is_name
returns-then-not-is_name c = record { value = search refuse_answer; out_after = search refuse_buffer }

pub returns : goal.returns
returns c = record {
  value = write_answer _ _ c.is_name.ensures c.if-not-is_name.false _ _ _ (rw c.new-to.ensures.at at c.put_lowered.ensures.wrote) (search rules);
  out_after = write_buffer _ _ c.is_name.ensures c.if-not-is_name.false _ _ c.put_lowered.new.self.at (search rules);
}
