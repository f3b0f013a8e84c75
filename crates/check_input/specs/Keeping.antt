-- What of an input is held while it is read, so that lines and a table of any length need no more room than this: as much as the answer depends on
-- (`kept_same`, proofs/Laws/Keeping.antt).
use Rattle.std.specs.Prelude.{ℕ, ◌≤◌, ◌≡◌, List, [], ◌∷◌, ◌++◌, cond, ◌&&◌, length, take, ltb, eqb}
use Rattle.std.proofs.lemmas.List.Edits.{sets}
use Rattle.text.specs.Runs.{run}
use Rattle.text.specs.Writing.{overwritten}
use Rattle.text.specs.Fields.{is_not, first_field, after_field}

-- the end of the first line, where it has one; "Only byte 10 ends a line"
unfoldable pub line_end : List ℕ → List ℕ
line_end s = cond (ltb (run (is_not 10) s) (length s)) (10 ∷ []) []

-- a number without the zeros that lead it; its last byte stays
unfoldable pub without_zeros : List ℕ → List ℕ
without_zeros [] = []
without_zeros (b ∷ s) = cond (eqb b 48 && ltb 0 (length s)) (without_zeros s) (b ∷ s)

-- t, below 2 ^ 64, has at most 20 digits besides: one more
unfoldable pub time_front : List ℕ → List ℕ
time_front t = take 21 (without_zeros t)

-- a front of each line with its end, and of the table one byte more than its 65,535
unfoldable pub kept_by : List (List ℕ → List ℕ) → List ℕ → List ℕ
kept_by [] s = take 65536 s
kept_by (front ∷ fronts) s = front (first_field 10 s) ++ line_end s ++ kept_by fronts (after_field 10 s)

-- "client .., domain, sender, HELO, receiver and t, a line each": of each one byte more than its limit; an address has at most 45 bytes. First those of
-- HELO's line on and of t's, for private functions
abbrev pub time_fronts : List (List ℕ → List ℕ)
time_fronts = time_front ∷ []

abbrev pub host_fronts : List (List ℕ → List ℕ)
host_fronts = take 256 ∷ take 256 ∷ time_fronts

abbrev pub fronts : List (List ℕ → List ℕ)
fronts = take 46 ∷ take 256 ∷ take 321 ∷ host_fronts

unfoldable pub kept : List ℕ → List ℕ
kept input = kept_by fronts input

-- the most that is kept: every front with its line's end, and the table's (`kept_length`, proofs/Laws/Holding.antt)
abbrev pub most_kept : ℕ
most_kept = 66698

-- the longest chunk, and the room that a buffer needs for both
abbrev pub most_chunk : ℕ
most_chunk = 65536

abbrev pub held_room : ℕ
held_room = 132234

-- n bytes were held in a buffer, and more are added: what is kept of both stands at the buffer's front, r bytes
pub record Held (before : List ℕ) (n : ℕ) (more after : List ℕ) (r : ℕ) : Type 0 where
  pub size : r ≡ length (kept (take n before ++ more))
  pub small : r ≤ most_kept
  pub buffer : after ≡ overwritten (kept (take n before ++ more)) (sets before n more)

-- what is held after some chunks of an input, and the input that they make
unfoldable pub holding : List ℕ → List (List ℕ) → List ℕ
holding h [] = h
holding h (c ∷ cs) = holding (kept (h ++ c)) cs

unfoldable pub joined : List ℕ → List (List ℕ) → List ℕ
joined x [] = x
joined x (c ∷ cs) = joined (x ++ c) cs
