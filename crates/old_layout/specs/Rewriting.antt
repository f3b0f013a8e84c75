-- W-209: "A program rewrites an old table from standard input with lifetime 0". An old table is one of 01's layout. By the layouts and by when a table
-- is accepted. It names no reader.
use Rattle.std.specs.Prelude.{ℕ, ◌≤◌, ◌<◌, List, [], ◌∷◌, ◌++◌, ◌⊎◌, length, drop}
use Rattle.answer_table.specs.Layout.{Two, body}
use Rattle.answer_table.specs.Numbers.{Place, nowhere, accepted, refused as table-refused}
use Rattle.answer_table.specs.Answers.{most_bytes, TableAnswersIn}
use Rattle.answer_table.specs.declared.Layout.TheVariants.{Old}
use Rattle.answer_entry.specs.Encoding.{two_bytes}

-- the four bytes of a lifetime of 0
abbrev pub zeros : List ℕ
zeros = 0 ∷ 0 ∷ 0 ∷ 0 ∷ []

-- an entry's bytes in the new layout: "2-byte length of all that follows in it", and the lifetime "after its status byte"
unfoldable pub new_entry : List ℕ → ℕ → (name i : List ℕ) → List ℕ
new_entry k status name i = two_bytes (length (body k status zeros name i)) ++ body k status zeros name i

-- the bytes of an old table and those of the new one, entry by entry: kind, status, name and items as they stand; it is one table (`rewritten_one`),
-- of the same entries (`same_entries`, proofs/Laws/Entries.antt)
pub data Rewritten : List ℕ → List ℕ → Type 0 where
  none : Rewritten [] []
  more : {l k rest new : List ℕ} {kind : ℕ} (status : ℕ) (name i : List ℕ) → Two l (length (body k status [] name i)) → Two k kind
      → Rewritten rest new → Rewritten (l ++ body k status [] name i ++ rest) (new_entry k status name i ++ new)

-- rewritten, with the length of the new table; or refused, with a number and a place
pub data Outcome : Type 0 where
  written : ℕ → Outcome
  refused : ℕ → Place → Outcome

-- what rewriting an old table into a lent buffer answers, and the buffer afterwards; it is one (`rewrites_one`, proofs/Laws/Outcomes.antt)
pub data Rewrites (old buffer : List ℕ) : Outcome → List ℕ → Type 0 where
  -- "for 24 to 26": the old table is refused, by its own places
  no_table : {n : ℕ} {p : Place} → TableAnswersIn Old old (table-refused n p) → Rewrites old buffer (refused n p) buffer
  -- "24 also, last, if the new one is too long": over 65,535 bytes, or longer than the buffer
  no_room : {n : ℕ} {new : List ℕ} → TableAnswersIn Old old (accepted n) → Rewritten old new
      → (most_bytes < length new) ⊎ (length buffer < length new) → Rewrites old buffer (refused 24 nowhere) buffer
  -- the new table stands at the front, and the bytes after it are kept
  fits : {n : ℕ} {new : List ℕ} → TableAnswersIn Old old (accepted n) → Rewritten old new → length new ≤ most_bytes → length new ≤ length buffer
      → Rewrites old buffer (written (length new)) (new ++ drop (length new) buffer)
