-- The networks of a record as rows: one row is the same as another exactly if the networks are (`rows_same`, proofs/Laws/Rows.antt).
use Rattle.std.specs.Prelude.{ℕ, ◌+◌, ◌≤◌, ◌<◌, ◌≡◌, ◌↔◌, List, [], ◌∷◌, ◌++◌, length}
use Rattle.text.specs.Bytes.{at}
use Rattle.address.specs.declared.Address.{Address}
use Rattle.address.specs.declared.Address.TheVariants.{IPv4, IPv6}
use Rattle.address.specs.Clearing.{cleared}
use Rattle.duplicates.specs.declared.Row.{Row}
use Rattle.duplicates.specs.Rows.{row_at, most_rows}
use Rattle.records.specs.Readings.{Optional, absent, present, Placed}
use Rattle.records.specs.Reader.{Reads}
use Rattle.records.specs.declared.Term.{Term}
use Rattle.publishing.specs.House.{Some, Among, SameNetwork}

-- an address in words, with a number that tells its family and a length
unfoldable pub words_of : ℕ → Address → Row
words_of n (IPv4 v) = record { kind = n; high = v; low = 0 }
words_of n (IPv6 high low) = record { kind = 256 + n; high = high; low = low }

-- a network: its family and length, and its address "after clearing the bits below it"
unfoldable pub row_of : Address → ℕ → Row
row_of a n = words_of n (cleared a n)

-- the row of a term, none where it is no network
unfoldable pub row_by : Optional Address → Optional ℕ → Optional ℕ → List Row
row_by absent four six = []
row_by (present (IPv4 v)) (present n) six = row_of (IPv4 v) n ∷ []
row_by (present (IPv4 v)) absent six = []
row_by (present (IPv6 high low)) four (present n) = row_of (IPv6 high low) n ∷ []
row_by (present (IPv6 high low)) four absent = []

abbrev pub rows_of : Placed → List Row
rows_of t = row_by t.said.address t.said.four t.said.six

-- the rows of a record's networks, in their order
unfoldable pub network_rows : List Placed → List Row
network_rows [] = []
network_rows (t ∷ ts) = rows_of t ++ network_rows ts

-- the same of a term as it was read
unfoldable pub term_rows : Term → List Row
term_rows (Term.Network sign from to a n) = row_of a n ∷ []
term_rows (Term.All sign) = []
term_rows (Term.Include sign from to) = []
term_rows (Term.A sign from to n m) = []
term_rows (Term.Mx sign from to n m) = []
term_rows (Term.Ptr sign from to) = []
term_rows (Term.Exists sign from to) = []
term_rows (Term.Redirect from to) = []
term_rows (Term.Explanation from to) = []
term_rows (Term.Unknown name to) = []

-- rows stand in a table from its first on
pub record Holds (table rows : List Row) : Type 0 where
  pub each : (i : ℕ) → i < length rows → row_at table i ≡ row_at rows i

-- what writing one row more promises
pub record PutsRow (t : Term) (n : ℕ) (before after : List Row) : Type 0 where
  pub kept : length after ≡ length before
  pub by : (rows : List Row) → n ≡ length rows → length (rows ++ term_rows t) ≤ most_rows → Holds before rows → Holds after (rows ++ term_rows t)

-- what the marks then say, by the record's terms from a place on: that of a network is 1 exactly if an earlier one is the same
pub record Marked (s : List ℕ) (first : ℕ) (marks : List ℕ) : Type 0 where
  pub by : (ts : List Placed) → Reads s first ts → (before : List Placed) (t : Placed) → Among ts before t → 0 < length (rows_of t)
      → (at marks (length (network_rows before)) ≡ 1) ↔ Some (SameNetwork t) before
