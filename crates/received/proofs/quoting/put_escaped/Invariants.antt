-- `received::quoting::put_escaped` meets its contract. From the laws of Quoting.
use mathlib.Core.Path.{◌≡◌}
use Rattle.received.proofs.Laws.Quoting.{Escaping}
use Rattle.received.proofs.quoting.put_escaped.Given as goal

abbrev pub invariant-loop-b : goal.invariant-loop-b
invariant-loop-b l = record {
  escaping : Escaping l.s l.initial.out.out.now l.initial.out.at l.b-index l.out.out.now l.out.at;
  same : l.out.out.ghost_name ≡ l.initial.out.out.ghost_name;
}
