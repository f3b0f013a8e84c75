-- For private functions: tests and readers that go byte by byte.
use Rattle.std.specs.Prelude.{ℕ, suc, ◌+◌, ◌≤◌, ◌<◌, ◌≡◌, List, [], ◌∷◌, Bool, true, false, cond, ◌&&◌, ◌||◌, length, drop, eqb, leb, ltb, Ok, Err}
use Rattle.text.specs.Bytes.{at, is_printable}
use Rattle.text.specs.Lists.{all, same}
use Rattle.received.specs.Atoms.{is_atext}
use Rattle.received.specs.Quoting.{quote, backslash, escaped}
use Rattle.received.specs.declared.quoting.Atoms.{Atoms}
use Rattle.received.specs.declared.quoting.Atoms.TheVariants.{Before, Within, Failed}
use Rattle.received.specs.Numbers.{Outcome}
use Rattle.received.specs.declared.LineError.TheVariants.{NoRoom, NoLine}

-- a state that each byte moves on
unfoldable pub fold : {A : Type 0} → (A → ℕ → A) → A → List ℕ → A
fold f a [] = a
fold f a (b ∷ s) = fold f (f a b) s

-- dot-atom-text: before an atom, within one, or failed
unfoldable pub atom_step : Atoms → ℕ → Atoms
atom_step Before b = cond (is_atext b) Within Failed
atom_step Within b = cond (eqb b 46) Before (cond (is_atext b) Within Failed)
atom_step Failed b = Failed

unfoldable pub is_within : Atoms → Bool
is_within Before = false
is_within Within = true
is_within Failed = false

unfoldable pub is_dot_atom_text : List ℕ → Bool
is_dot_atom_text s = is_within (fold atom_step Before s)

-- a byte of dot-atom-text
unfoldable pub is_plain : ℕ → Bool
is_plain b = is_atext b || eqb b 46

-- how many bytes stand before the byte that the first one is, or escapes: 1 or 0
unfoldable pub skip : List ℕ → ℕ
skip t = cond (eqb (at t 0) backslash && ltb 1 (length t)) 1 0

-- the same from a place on
unfoldable pub place : List ℕ → ℕ → ℕ
place s i = i + skip (drop i s)

pub record Placed (s : List ℕ) (i r : ℕ) : Type 0 where
  pub is_place : r ≡ place s i
  pub from : i ≤ r
  pub inside : r < length s

-- how many bytes stand before the first quote that isn't escaped
unfoldable pub closing : List ℕ → ℕ
closing [] = 0
closing (b ∷ []) = cond (eqb b quote) 0 1
closing (b ∷ c ∷ s) = cond (eqb b quote) 0 (cond (eqb b backslash) (suc (suc (closing s))) (suc (closing (c ∷ s))))

-- the second call for a value that its part may have
unfoldable pub valued : List ℕ → List ℕ → ℕ → Outcome
valued v s room = cond (all is_printable v && same (escaped v) s) (cond (leb (length v) room) (Ok v) (Err NoRoom)) (Err NoLine)
