-- `text::bytes::run_end_by` meets its contract. From the laws of Runs.
use Prim.Native.Nat.{ℕ}
use mathlib.Core.Bool.{Bool}
use mathlib.Core.Path.{◌≡◌}
use Rattle.text.specs.Runs.{Answers, run_end}
use Rattle.text.proofs.bytes.run_end_by.Given as goal

abbrev pub invariant-loop-j : goal.invariant-loop-j
invariant-loop-j g l = (p : ℕ → Bool) → Answers (goal.F-post g l.test) p → run_end p l.s l.j ≡ run_end p l.s l.i
