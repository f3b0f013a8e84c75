-- An entry added to a table that stands at the front of a buffer: by the layout of the table and by when a table is accepted. It names no reader.
use Rattle.std.specs.Prelude.{ℕ, suc, ◌≤◌, ◌<◌, ◌≡◌, List, ◌++◌, true, false, length, take, drop}
use Rattle.answer_table.specs.Layout.{Entry, holds}
use Rattle.answer_table.specs.Numbers.{Place, nowhere, accepted, refused as table-refused}
use Rattle.answer_table.specs.Answers.{most_bytes, Encoded, TableAnswers}
use Rattle.answer_entry.specs.Encoding.{entry_bytes}

-- appended, with the length of the new table; or refused, with a number and a place
pub data Outcome : Type 0 where
  appended : ℕ → Outcome
  refused : ℕ → Place → Outcome

-- a table's bytes with those of an entry after them
abbrev pub extended : List ℕ → (kind status lifetime : ℕ) (name items : List ℕ) → List ℕ
extended table kind status lifetime name items = table ++ entry_bytes kind status lifetime name items

-- the first bytes of a buffer are an accepted table, and these are its entries
pub record HasTable (buffer : List ℕ) (size : ℕ) (es : List Entry) : Type 0 where
  pub inside : size ≤ length buffer
  pub short : size ≤ most_bytes
  pub encoded : Encoded (take size buffer) es

-- the new table is accepted and fits into the buffer
pub record Extends (buffer : List ℕ) (size kind status lifetime : ℕ) (name items : List ℕ) (count : ℕ) : Type 0 where
  pub accepts : TableAnswers (extended (take size buffer) kind status lifetime name items) (accepted count)
  pub room : length (extended (take size buffer) kind status lifetime name items) ≤ length buffer

-- what appending an entry to the first `size` bytes of a buffer answers, and the buffer afterwards
pub data Appends (kind status lifetime : ℕ) (name items buffer : List ℕ) (size : ℕ) : Outcome → List ℕ → Type 0 where
  -- 24: the table would end past the buffer
  beyond : length buffer < size → Appends kind status lifetime name items buffer size (refused 24 nowhere) buffer
  -- 24 to 26: the table is refused
  no_table : {n : ℕ} {p : Place} → size ≤ length buffer → TableAnswers (take size buffer) (table-refused n p)
      → Appends kind status lifetime name items buffer size (refused n p) buffer
  -- 64: the kind and name pair is in the table
  in_table : {es : List Entry} → HasTable buffer size es → holds kind name es ≡ true
      → Appends kind status lifetime name items buffer size (refused 64 nowhere) buffer
  -- 65: the new table is refused or exceeds the buffer
  unfit : {es : List Entry} → HasTable buffer size es → holds kind name es ≡ false → ((n : ℕ) → Extends buffer size kind status lifetime name items n → ⊥)
      → Appends kind status lifetime name items buffer size (refused 65 nowhere) buffer
  -- the entry's bytes follow the table's, and all other bytes are kept
  added : {es : List Entry} → HasTable buffer size es → Extends buffer size kind status lifetime name items (suc (length es))
      → Appends kind status lifetime name items buffer size (appended (length (extended (take size buffer) kind status lifetime name items)))
      (extended (take size buffer) kind status lifetime name items ++ drop (length (extended (take size buffer) kind status lifetime name items)) buffer)
