-- `publishing::offences::Tested::put` meets its contract. From the laws of Walking.
use Rattle.publishing.proofs.Laws.Walking.{Ruling}
use Rattle.publishing.specs.Finding.{breaks_by}
use Rattle.publishing.proofs.offences.Tested.put.Given as goal

abbrev pub invariant-loop-rule : goal.invariant-loop-rule
invariant-loop-rule l = Ruling (breaks_by l.self.whole l.self.seen l.self.facts l.self.p l.self.marked) l.place l.initial.out l.out l.rule
