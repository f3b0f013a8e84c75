-- The fields of a text: its parts between separators, counted from 0. A field that is missing is empty.
use Rattle.std.specs.Prelude.{ℕ, zero, suc, List, Bool, not, take, drop, eqb}
use Rattle.text.specs.Runs.{run}

-- any byte but the separator
unfoldable pub is_not : ℕ → ℕ → Bool
is_not separator b = not (eqb b separator)

-- the bytes up to the first separator; all where there is none
unfoldable pub first_field : ℕ → List ℕ → List ℕ
first_field separator s = take (run (is_not separator) s) s

-- what stands behind the first separator; nothing where there is none
unfoldable pub after_field : ℕ → List ℕ → List ℕ
after_field separator s = drop (suc (run (is_not separator) s)) s

-- what stands behind k fields and their separators
unfoldable pub after_fields : ℕ → ℕ → List ℕ → List ℕ
after_fields separator zero s = s
after_fields separator (suc k) s = after_fields separator k (after_field separator s)

-- the field after k others
unfoldable pub field : ℕ → ℕ → List ℕ → List ℕ
field separator k s = first_field separator (after_fields separator k s)
