-- `text::writing::put_bytes` meets its contract. From the laws of Writing.
use Rattle.text.proofs.Laws.Writing.{Copied}
use Rattle.text.proofs.writing.put_bytes.Given as goal

abbrev pub invariant-loop-b : goal.invariant-loop-b
invariant-loop-b l = Copied (λ b. b) l.s l.initial.out l.at l.b-index l.out l.next
