-- How often a redirect and an exp stand, and the two flags by which the reader knows. From the definition of `count_of`.
use Prim.Native.Nat.{ℕ, ◌+◌, ◌≤◌}
use mathlib.Core.Path.{◌≡◌, refl}
use mathlib.Core.List.{List, [], ◌∷◌, ◌++◌}
use mathlib.Core.Bool.{Bool, true, false, cond, ◌&&◌, ◌||◌}
use native.Mathlib.Omega.{arith}
use native.Mathlib.Nat.{add_assoc}
use Rattle.text.specs.Lists.{same}
use Rattle.text.specs.Texts.{bytes}
use Rattle.records.specs.Readings.{Placed}
use Rattle.records.specs.Grammar.{count_of}

-- a flag as a count
unfoldable pub count : Bool → ℕ
count b = cond b 1 0

pub count_none : (wanted : List ℕ) → count_of wanted [] ≡ 0
unfolding count_of
count_none wanted = refl

pub count_more : (wanted : List ℕ) (t : Placed) (ts : List Placed) → count_of wanted (t ∷ ts) ≡ count (same t.said.name wanted) + count_of wanted ts
unfolding count_of count
count_more wanted t ts = refl

pub count_append : (wanted : List ℕ) (ts us : List Placed) → count_of wanted (ts ++ us) ≡ count_of wanted ts + count_of wanted us
unfolding count_of
count_append wanted [] us = omega arith
count_append wanted (t ∷ ts) us = simp (count_append wanted ts us, add_assoc)

-- each stands at most once, with those that have stood before
pub record Fits (m n : ℕ) (ts : List Placed) : Type 0 where
  pub redirects : m + count_of (bytes "redirect") ts ≤ 1
  pub explanations : n + count_of (bytes "exp") ts ≤ 1

-- flags
pub count_false : count false ≡ 0
unfolding count
count_false = refl

pub count_small : (r : Bool) → count r ≤ 1
unfolding count
count_small true = omega arith
count_small false = omega arith

pub flag_free : (r t : Bool) → count r + count t ≤ 1 → (r && t) ≡ false
unfolding count
flag_free true true h = absurd (omega arith)
flag_free true false h = refl
flag_free false t h = refl

pub flag_sum : (r t : Bool) → (r && t) ≡ false → count (r || t) ≡ count r + count t
unfolding count
flag_sum true true h = let z : ◌≡◌ {A = ℕ} 0 1 = cc in omega arith
flag_sum true false h = refl
flag_sum false t h = omega arith

pub flag_twice : (r t : Bool) → (r && t) ≡ true → count r + count t ≡ 2
unfolding count
flag_twice true true h = refl
flag_twice true false h = let z : ◌≡◌ {A = ℕ} 0 1 = cc in omega arith
flag_twice false t h = let z : ◌≡◌ {A = ℕ} 0 1 = cc in omega arith
