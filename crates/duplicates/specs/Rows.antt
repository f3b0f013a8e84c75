-- Which rows of a table are the same as an earlier one.
use Rattle.std.specs.Prelude.{ℕ, ◌<◌, ◌≡◌, ◌↔◌, List, length, get_or}
use Rattle.text.specs.Bytes.{at}
use Rattle.duplicates.specs.declared.Row.{Row}

-- the row at a place; past the end one of zeros
abbrev pub no_row : Row
no_row = record { kind = 0; high = 0; low = 0 }

abbrev pub row_at : List Row → ℕ → Row
row_at rows i = get_or rows i no_row

-- an earlier row is the same
pub record Repeated (rows : List Row) (i : ℕ) : Type 0 where
  pub earlier : ℕ
  pub before : earlier < i
  pub same : row_at rows earlier ≡ row_at rows i

-- the rows are marked: by 1 just where an earlier one is the same, and otherwise by 0
pub record Marks (rows : List Row) (marks : List ℕ) : Type 0 where
  pub marked : (i : ℕ) → i < length rows → (at marks i ≡ 1) ↔ Repeated rows i
  pub others : (i : ℕ) → i < length rows → (Repeated rows i → ⊥) → at marks i ≡ 0

-- the most rows that are taken
abbrev pub most_rows : ℕ
most_rows = 682
