-- How long a decision may be kept. W-209: "the first call's result, 7 included, the smallest among the entries it consulted, or 0 if none". The entries
-- consulted are those that a question found, whatever their answers and whether or not the result hung on them.
use Rattle.std.specs.Prelude.{ℕ, ◌≤◌, List, [], ◌∷◌, None, Option, Some}
use Rattle.records.specs.Readings.{Optional, absent, present}
use Rattle.rules.specs.Tree.{Answer, Table, Settled, settled, wanting}
use Rattle.rules.specs.Trail.{Question}

-- the lifetimes of the entries that questions find, in their order; a question without an entry adds none
unfoldable pub with_found : Optional Answer → List ℕ → List ℕ
with_found absent ns = ns
with_found (present x) ns = x.lifetime ∷ ns

unfoldable pub lifetimes : Table → List Question → List ℕ
lifetimes t [] = []
lifetimes t (q ∷ qs) = with_found (t q.kind q.name) (lifetimes t qs)

-- a number is one of some
pub data OneOf (n : ℕ) : List ℕ → Type 0 where
  first : {ns : List ℕ} → OneOf n (n ∷ ns)
  later : {m : ℕ} {ns : List ℕ} → OneOf n ns → OneOf n (m ∷ ns)

-- "the smallest among" some, "or 0 if none"
pub data Smallest : List ℕ → ℕ → Type 0 where
  none : Smallest [] 0
  some : {n : ℕ} {ns : List ℕ} → OneOf n ns → ((m : ℕ) → OneOf m ns → n ≤ m) → Smallest ns n

-- the lifetime that a run ends with, and as it is answered
unfoldable pub life_of : {A : Type 0} → Settled A → Option ℕ
life_of (settled a l) = l
life_of (wanting kind n c l) = l

unfoldable pub seconds : Option ℕ → ℕ
seconds None = 0
seconds (Some n) = n
