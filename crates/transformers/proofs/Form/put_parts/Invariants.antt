-- `transformers::Form::put_parts` meets its contract. From the laws of Parts.
use mathlib.Core.Path.{◌≡◌}
use Rattle.transformers.proofs.Laws.Parts.{Written}
use Rattle.transformers.proofs.Form.put_parts.Given as goal

abbrev pub invariant-loop-b : goal.invariant-loop-b
invariant-loop-b l = record {
  written : Written l.s l.self.delimiters.now l.self.escape l.initial.out.out.now l.initial.out.at l.b-index l.out.out.now l.out.at;
  same : l.out.out.ghost_name ≡ l.initial.out.out.ghost_name;
}
