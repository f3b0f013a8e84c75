-- A name outside the table: "one trailing dot is dropped and A to Z lowered before a question is put; anything else is malformed".
use Rattle.std.specs.Prelude.{ℕ, ◌-◌, List, map, cond, length, take, None, Option, Some}
use Rattle.text.specs.Bytes.{at, is_dot, lower}
use Rattle.text.specs.Writing.{overwritten}
use Rattle.domain.specs.Names.{is_name}

-- one trailing dot dropped
unfoldable pub without_dot : List ℕ → List ℕ
without_dot s = cond (is_dot (at s (length s - 1))) (take (length s - 1) s) s

-- what a text names
pub data Naming : Type 0 where
  name : List ℕ → Naming
  malformed : Naming

-- A to Z lowered, then well-formed or malformed
unfoldable pub lowered : List ℕ → Naming
lowered s = cond (is_name (map lower s)) (name (map lower s)) malformed

-- the same with one trailing dot dropped first
unfoldable pub normal : List ℕ → Naming
normal s = lowered (without_dot s)

-- the answer's case for a name: its length; or malformed
abbrev pub name_answer : Naming → Option ℕ
name_answer (name xs) = Some (length xs)
name_answer malformed = None

-- the lent buffer afterwards: the name at its front and all bytes after it kept; as it was if malformed
abbrev pub name_buffer : Naming → List ℕ → List ℕ
name_buffer (name xs) before = overwritten xs before
name_buffer malformed before = before
