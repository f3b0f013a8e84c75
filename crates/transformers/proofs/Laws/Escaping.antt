-- Unreserved bytes, hex digits, and escaped texts, piece by piece as the code writes them. From the definitions of Transform and the laws of
-- writing.
use Prim.Native.Nat.{ℕ}
use mathlib.Core.Path.{◌≡◌, refl, ◌∙◌}
use mathlib.Core.List.{List, [], ◌∷◌, ◌++◌, append_assoc}
use mathlib.Core.Bool.{Bool, true, false, or-false}
use Rattle.text.specs.Bytes.{within, is_upper, is_alpha, is_digit, is_alphanumeric}
use Rattle.text.specs.Lists.{contains}
use Rattle.text.specs.Runs.{is_in}
use Rattle.text.specs.declared.bytes.Class.TheVariants.{Alphanumeric}
use Rattle.transformers.specs.Transform.{is_unreserved, escaped_byte, escaped}

-- `is_unreserved`
module _ (b : ℕ) (r : Bool) (p : r ≡ is_in Alphanumeric b) where
  pub unreserved_alphanumeric : r ≡ true → r ≡ is_unreserved b
  unfolding is_unreserved is_in
  unreserved_alphanumeric k = k ∙ rw (← p, k)

  pub unreserved_other : r ≡ false → (u : Bool) → u ≡ contains (45 ∷ 46 ∷ 95 ∷ 126 ∷ []) b → u ≡ is_unreserved b
  unfolding is_unreserved is_in contains
  unreserved_other k u e = rw (← p, k) (e ∙ rw or-false)

-- a text in two pieces, and a dot
pub escaped_append : (escape : Bool) (xs ys : List ℕ) → escaped escape (xs ++ ys) ≡ escaped escape xs ++ escaped escape ys
unfolding escaped
escaped_append escape [] ys = refl
escaped_append escape (x ∷ xs) ys = rw (escaped_append escape xs ys, append_assoc)

pub escaped_dot : (escape : Bool) → escaped_byte escape 46 ≡ 46 ∷ []
unfolding escaped_byte is_unreserved is_alphanumeric is_alpha is_upper is_digit within
escaped_dot true = refl
escaped_dot false = refl
