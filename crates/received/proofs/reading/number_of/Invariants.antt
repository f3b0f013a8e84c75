-- `received::reading::number_of` meets its contract. From the laws of Reading.
use Prim.Native.Nat.{ℕ, ◌<◌}
use mathlib.Core.Path.{◌≡◌}
use mathlib.Core.Bool.{false}
use Rattle.text.specs.Lists.{same}
use Rattle.received.specs.Texts.{word_of}
use Rattle.received.proofs.reading.number_of.Given as goal

abbrev pub invariant-loop-n : goal.invariant-loop-n
invariant-loop-n l = (k : ℕ) → k < l.n → same l.w (word_of k) ≡ false
