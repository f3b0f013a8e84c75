-- Bytes written into a lent buffer.
use Rattle.std.specs.Prelude.{ℕ, ◌+◌, ◌≤◌, min, ◌≡◌, List, ◌++◌, length, take, drop}
use Rattle.std.proofs.lemmas.List.Edits.{sets}
use Rattle.text.specs.declared.writing.Writer.{Writer}

-- xs was written into a buffer from a place on: what fits is stored, past the buffer's end nothing is, and the place counts on, up to the
-- largest usize. `sets l i xs` is l with the bytes xs stored from place i on.
pub record Wrote (xs before : List ℕ) (at : ℕ) (after : List ℕ) (next : ℕ) : Type 0 where
  pub next_place : next ≡ min (at + length xs) 18446744073709551615
  pub room : length before ≤ 18446744073709551615
  pub text : after ≡ sets before at xs

-- the same by a writer, which holds its buffer and its place, and keeps that buffer
pub record Writes (xs : List ℕ) (before after : Writer) : Type 0 where
  pub wrote : Wrote xs before.out.now before.at after.out.now after.at
  pub same : after.out.ghost_name ≡ before.out.ghost_name

-- a buffer whose front was overwritten by as much of xs as fits, and whose other bytes are kept
unfoldable pub overwritten : List ℕ → List ℕ → List ℕ
overwritten xs before = take (length before) xs ++ drop (length xs) before
