-- The entry of a kind and a name, by the list of entries.
use Rattle.std.specs.Prelude.{ℕ, ◌-◌, ◌≤◌, ◌≡◌, List, [], ◌∷◌, cond, length, take, drop, None, Option, Some}
use Rattle.answer_table.specs.declared.Found.{Found}
use Rattle.answer_table.specs.Layout.{Entry, is_pair}
use Rattle.answer_table.specs.Reader.{items_of}

pub data Lookup : Type 0 where
  present : Entry → Lookup
  absent : Lookup

-- the entry of that pair, or none
unfoldable pub lookup : ℕ → List ℕ → List Entry → Lookup
lookup kind name [] = absent
lookup kind name (e ∷ es) = cond (is_pair kind name e) (present e) (lookup kind name es)

-- what `find` answers: the entry's status and lifetime, and the part of the table where its items stand
pub data Finds (t : List ℕ) : Lookup → Option Found → Type 0 where
  found : {e : Entry} {start end : ℕ} → start ≤ end → end ≤ length t → items_of (take (end - start) (drop start t)) ≡ e.items
      → Finds t (present e) (Some (record { status = e.status; lifetime = e.lifetime; start = start; end = end }))
  missing : Finds t absent None
