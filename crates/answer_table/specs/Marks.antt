-- How the check finds a "pair seen before" (26) without a search for each; what it answers is said in Answers, and no mark is mentioned there.
-- Marks of kind and name pairs: 16,384 bits in 256 words, of which each pair has two. Equal pairs have the same two, so a pair of which one is
-- clear stands nowhere among the entries whose pairs are marked.
use Rattle.std.specs.Prelude.{ℕ, ◌+◌, ◌*◌, ◌/◌, ◌%◌, ◌^◌, ◌≡◌, List, [], ◌∷◌, Bool, true, false, ◌&&◌, get_or, take, length, eqb, ltb, is_some, None, Option, Some, Result, Ok, Err}
use Rattle.answer_table.specs.Layout.{Entry, EntriesIn, holds}
use Rattle.answer_table.specs.declared.Layout.{Layout}
use Rattle.answer_table.specs.declared.TableError.{TableError}
use Rattle.answer_table.specs.declared.marks.Marks.{Marks}

-- a number below 2 ^ 32 made of a kind and a name's bytes
unfoldable pub digest_of : ℕ → List ℕ → ℕ
digest_of h [] = h
digest_of h (b ∷ s) = digest_of ((h * 1664525 + b) % 4294967296) s

-- the marks of a pair: the lowest 14 of the number's 32 bits, and the highest 14
unfoldable pub first_mark : ℕ → List ℕ → ℕ
first_mark kind name = digest_of kind name % 16384

unfoldable pub second_mark : ℕ → List ℕ → ℕ
second_mark kind name = digest_of kind name / 262144

-- whether a mark is set
unfoldable pub is_marked : List ℕ → ℕ → Bool
is_marked marks m = eqb (get_or marks (m / 64) 0 / 2 ^ (m % 64) % 2) 1

-- whether both marks of a pair are set
unfoldable pub is_pair_marked : List ℕ → ℕ → List ℕ → Bool
is_pair_marked marks kind name = is_marked marks (first_mark kind name) && is_marked marks (second_mark kind name)

-- marks before and after: none is cleared
abbrev pub Keeps : (before after : List ℕ) → Type 0
Keeps before after = (m : ℕ) → is_marked before m ≡ true → is_marked after m ≡ true

-- a mark is set
pub record SetsMark (before : List ℕ) (mark : ℕ) (after : List ℕ) : Type 0 where
  pub keeps : Keeps before after
  pub marked : is_marked after mark ≡ true

-- a pair is marked, and said to be new only if it wasn't marked before
pub record MarksPair (before : List ℕ) (kind : ℕ) (name : List ℕ) (new : Bool) (after : List ℕ) : Type 0 where
  pub keeps : Keeps before after
  pub marked : is_pair_marked after kind name ≡ true
  pub unmarked : new ≡ true → is_pair_marked before kind name ≡ false

-- the same where there are marks; where there are none, no pair is said to be new
pub data NotesPair (kind : ℕ) (name : List ℕ) : Option Marks → Bool → Option Marks → Type 0 where
  noted : {before after : Marks} {new : Bool} → MarksPair before.words kind name new after.words → NotesPair kind name (Some before) new (Some after)
  unmarked : NotesPair kind name None false None

-- entries stand end to end before a place; there are marks in a table of more than 512 bytes and in no other, and there the entries' pairs are marked
pub record Covered (lay : Layout) (t : List ℕ) (i : ℕ) (marks : Option Marks) : Type 0 where
  pub before : List Entry
  pub entries : EntriesIn lay (take i t) before
  pub large : is_some marks ≡ ltb 512 (length t)
  pub marked : (m : Marks) → marks ≡ Some m → (kind : ℕ) (name : List ℕ) → holds kind name before ≡ true → is_pair_marked m.words kind name ≡ true

-- the same of the place that a step leads to
abbrev pub CoveredAfter : Layout → List ℕ → Result ℕ TableError → Option Marks → Type 0
CoveredAfter lay t (Ok next) marks = Covered lay t next marks
CoveredAfter lay t (Err e) marks = Unit {0}
