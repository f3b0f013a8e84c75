-- `text::bytes::trailing_start` meets its contract. From the laws of Runs.
use Rattle.text.specs.Runs.{is_in}
use Rattle.text.specs.Lists.{all}
use mathlib.Core.Bool.{true}
use mathlib.Core.Path.{◌≡◌}
use lib.ListN.{drop}
use Rattle.text.proofs.bytes.trailing_start.Given as goal

abbrev pub invariant-loop-i : goal.invariant-loop-i
invariant-loop-i l = all (is_in l.class) (drop l.i l.s) ≡ true
