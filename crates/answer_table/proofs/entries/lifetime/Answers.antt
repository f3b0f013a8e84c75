-- `lifetime` is the reader's, from the numbers of two bytes and of the next two.
use Rattle.std.proofs.Common.{rules, arith}
use lib.Seq.{get_or-drop}
use Rattle.answer_table.specs.Reader.{lifetime_at, number}
use Rattle.answer_table.proofs.entries.lifetime.Goals as goal

pub returns-in-Old : goal.returns-in-Old
unfolding lifetime_at
returns-in-Old c = search rules

pub returns-in-New : goal.returns-in-New
unfolding lifetime_at number
returns-in-New c = rw c.in-New.is (simp get_or-drop (omega (arith, c.from_le_bytes.ensures)))
