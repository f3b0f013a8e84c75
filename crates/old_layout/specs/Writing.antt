-- For private functions: what is written of an entry, for any bytes, and of a table.
use Rattle.std.specs.Prelude.{ℕ, ◌+◌, ◌≤◌, ◌≡◌, List, ◌++◌, length}
use Rattle.text.specs.Bytes.{part}
use Rattle.text.specs.Writing.{Writes}
use Rattle.text.specs.declared.writing.Writer.{Writer}
use Rattle.answer_table.specs.Answers.{most_bytes}
use Rattle.answer_table.specs.Reader.{number}
use Rattle.answer_entry.specs.Encoding.{four_bytes, low_bytes}
use Rattle.old_layout.specs.Rewriting.{Rewritten}

-- what is written of the entry at the front: its length and four more, its kind and status, a lifetime of 0, and all that follows in it
unfoldable pub lengthened : List ℕ → List ℕ
lengthened s = low_bytes (number s + 4) ++ part s 2 5 ++ four_bytes 0 ++ part s 5 (2 + number s)

-- what writing a table from the front on promises of one that can be rewritten
pub record PutsTable (old : List ℕ) (before after : Writer) : Type 0 where
  pub by : before.at ≡ 0 → (new : List ℕ) → Rewritten old new → length new ≤ most_bytes → Writes new before after
  pub same : after.out.ghost_name ≡ before.out.ghost_name
