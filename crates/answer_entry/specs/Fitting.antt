-- The tests that the code makes before it writes; the laws tie them to Appending.
use Rattle.std.specs.Prelude.{ℕ, ◌+◌, ◌≤◌, List, Bool, ◌&&◌, length, take, leb, ltb}
use Rattle.answer_table.specs.Layout.{header_size}
use Rattle.answer_table.specs.Numbers.{accepted}
use Rattle.answer_table.specs.Answers.{most_bytes, most_entries, TableAnswers}
use Rattle.answer_table.specs.Reader.{is_entry}
use Rattle.answer_table.specs.declared.Layout.TheVariants.{New}

-- the first bytes of a buffer are an accepted table with so many entries
pub record Checked (buffer : List ℕ) (size count : ℕ) : Type 0 where
  pub inside : size ≤ length buffer
  pub accepts : TableAnswers (take size buffer) (accepted count)

-- the length of a table with one more entry
abbrev pub new_size : ℕ → (name items : List ℕ) → ℕ
new_size size name items = size + (header_size New + (length name + length items))

-- whether a table of that size and with so many entries can take the entry, in a buffer of that length
unfoldable pub is_fit : (kind status : ℕ) (name items : List ℕ) (size count room : ℕ) → Bool
is_fit kind status name items size count room =
    leb (new_size size name items) most_bytes
    && (leb (new_size size name items) room && (ltb count most_entries && is_entry kind status name items))
