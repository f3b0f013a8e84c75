-- The r high-order bits of an octet x are as good as the number x / 2 ^ (8 - r), for r up to 8. By computing both ways at each octet.
-- Assumes nothing.
use Prim.Native.Nat.{ℕ, ◌+◌, ◌-◌, ◌*◌, ◌/◌, ◌^◌, ◌≤◌, ◌<◌}
use mathlib.Core.Path.{◌≡◌, refl, sym, ap, ◌∙◌}
use mathlib.Core.List.{List, [], ◌∷◌}
use mathlib.Core.Bool.{Bool, true}
use mathlib.Core.Logic.{◌↔◌}
use native.Mathlib.Omega.{arith}
use native.Mathlib.Nat.{div-one}
use lib.ListN.{take}
use lib.Dec.{eqb}
use borrow.Author.Tests.{eqb-true}
use Rattle.text.specs.Lists.{same}
use Rattle.text.proofs.Laws.Classes.{all_below, below}
use Rattle.text.proofs.Laws.Words.{same_true}
use Rattle.address.specs.Matching.{bits_of}

-- the number that bits write after those of the number v
unfoldable bits_value : ℕ → List ℕ → ℕ
bits_value v [] = v
bits_value v (b ∷ s) = bits_value (2 * v + b) s

-- the bits' number, and the bits of the number with zeros after it
unfoldable value_right : ℕ → ℕ → Bool
value_right r x = eqb (bits_value 0 (take r (bits_of x))) (x / 2 ^ (8 - r))

unfoldable bits_right : ℕ → ℕ → Bool
bits_right r x = same (take r (bits_of x)) (take r (bits_of (x / 2 ^ (8 - r) * 2 ^ (8 - r))))

values_right : all_below 9 (λ r. all_below 256 (value_right r)) ≡ true
unfolding value_right bits_value bits_of
values_right = refl

bits_right_lem : all_below 9 (λ r. all_below 256 (bits_right r)) ≡ true
unfolding bits_right bits_of same
bits_right_lem = refl

module _ (r x : ℕ) (hr : r ≤ 8) (hx : x < 256) where
  value_of_bits : bits_value 0 (take r (bits_of x)) ≡ x / 2 ^ (8 - r)
  unfolding value_right
  value_of_bits = eqb-true _ _ (below 256 (value_right r) (below 9 (λ r. all_below 256 (value_right r)) values_right r (omega arith)) x hx)

  bits_of_value : take r (bits_of x) ≡ take r (bits_of (x / 2 ^ (8 - r) * 2 ^ (8 - r)))
  unfolding bits_right
  bits_of_value = same_true _ _ (below 256 (bits_right r) (below 9 (λ r. all_below 256 (bits_right r)) bits_right_lem r (omega arith)) x hx)

-- the step law of matching
pub shifted_bits : (r x y : ℕ) → r ≤ 8 → x < 256 → y < 256 → (x / 2 ^ (8 - r) ≡ y / 2 ^ (8 - r)) ↔ (take r (bits_of x) ≡ take r (bits_of y))
shifted_bits r x y hr hx hy = (
  (λ e. bits_of_value r x hr hx ∙ ap (λ (q : ℕ). take r (bits_of (q * 2 ^ (8 - r)))) e ∙ sym (bits_of_value r y hr hy)),
  (λ e. sym (value_of_bits r x hr hx) ∙ ap (bits_value 0) e ∙ value_of_bits r y hr hy),
)

-- all eight bits: the octet itself
pub same_bits : (x y : ℕ) → x < 256 → y < 256 → (x ≡ y) ↔ (bits_of x ≡ bits_of y)
unfolding bits_of
same_bits x y hx hy =
    ((λ e. ap bits_of e), (λ e. sym (div-one x) ∙ (shifted_bits 8 x y (omega arith) hx hy).1 e ∙ div-one y))
