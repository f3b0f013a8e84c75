-- `text::writing::Writer::put_lowered` meets its contract. From the laws of Writing.
use mathlib.Core.Path.{◌≡◌}
use Rattle.text.proofs.Laws.Writing.{Copied}
use Rattle.text.specs.Bytes.{lower}
use Rattle.text.proofs.writing.Writer.put_lowered.Given as goal

abbrev pub invariant-loop-b : goal.invariant-loop-b
invariant-loop-b l = record { copied : Copied lower l.s l.initial.self.out.now l.initial.self.at l.b-index l.self.out.now l.self.at; same : l.self.out.ghost_name ≡ l.initial.self.out.ghost_name }
