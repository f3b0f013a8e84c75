-- An answer table as what it has for each question.
use Rattle.std.specs.Prelude.{ℕ, List, cond, eqb}
use Rattle.answer_table.specs.Layout.{Entry, status_failed}
use Rattle.answer_table.specs.Lookup.{Lookup, lookup}
use Rattle.answer_table.specs.Reader.{entries_of}
use Rattle.records.specs.Readings.{Optional, absent, present}
use Rattle.rules.specs.Tree.{Reply, failed, items, Answer, Table}

-- "status (0 answered, 2 failed, 3 no such name)"; the last has no items
unfoldable pub reply_by : ℕ → List (List ℕ) → Reply
reply_by status ds = cond (eqb status status_failed) failed (items ds)

-- W-209 amends the house rules: with the entry's lifetime
unfoldable pub answer_of : Lookup → Optional Answer
answer_of Lookup.absent = absent
answer_of (Lookup.present e) = present (record { reply = reply_by e.status e.items; lifetime = e.lifetime })

-- what a list of entries has for each question
unfoldable pub table_of : List Entry → Table
table_of es kind name = answer_of (lookup kind name es)

-- the table that bytes encode
unfoldable pub table_in : List ℕ → Table
table_in t kind name = answer_of (lookup kind name (entries_of t))
