-- Tables rewritten by hand, from the layouts.
use Rattle.std.specs.Prelude.{[], ◌∷◌, ◌++◌}
use Rattle.text.specs.Texts.{bytes}
use Rattle.answer_table.specs.Layout.{two, body}
use Rattle.answer_entry.specs.Encoding.{two_bytes}
use Rattle.old_layout.specs.Rewriting.{new_entry, Rewritten, none, more}

pub record Cases : Type 0 where
  -- an empty table
  pub empty : Rewritten [] []
  -- kind 1, status 0, the name a, no items
  pub void_entry : Rewritten (5 ∷ 0 ∷ 1 ∷ 0 ∷ 0 ∷ 1 ∷ 97 ∷ []) (9 ∷ 0 ∷ 1 ∷ 0 ∷ 0 ∷ 0 ∷ 0 ∷ 0 ∷ 0 ∷ 1 ∷ 97 ∷ [])
  -- an item of four bytes, then an entry of status 3
  pub two_entries : Rewritten
      (13 ∷ 0 ∷ 1 ∷ 0 ∷ 0 ∷ 3 ∷ bytes "a.b" ++ (4 ∷ 0 ∷ 1 ∷ 2 ∷ 3 ∷ 4 ∷ []) ++ (5 ∷ 0 ∷ 99 ∷ 0 ∷ 3 ∷ 1 ∷ 97 ∷ []))
      (17 ∷ 0 ∷ 1 ∷ 0 ∷ 0 ∷ 0 ∷ 0 ∷ 0 ∷ 0 ∷ 3 ∷ bytes "a.b" ++ (4 ∷ 0 ∷ 1 ∷ 2 ∷ 3 ∷ 4 ∷ []) ++ (9 ∷ 0 ∷ 99 ∷ 0 ∷ 3 ∷ 0 ∷ 0 ∷ 0 ∷ 0 ∷ 1 ∷ 97 ∷ []))

pub cases : Cases
unfolding body two_bytes new_entry
cases = record {
  empty = none;
  void_entry = more {l = 5 ∷ 0 ∷ []} {k = 1 ∷ 0 ∷ []} 0 (bytes "a") [] two two none;
  two_entries =
      more {l = 13 ∷ 0 ∷ []} {k = 1 ∷ 0 ∷ []} 0 (bytes "a.b") (4 ∷ 0 ∷ 1 ∷ 2 ∷ 3 ∷ 4 ∷ []) two two
      (more {l = 5 ∷ 0 ∷ []} {k = 99 ∷ 0 ∷ []} 3 (bytes "a") [] two two none);
}
