-- The loop of `read_line`: what it has kept of the buffer. From the definition of Lines.
use Rattle.std.proofs.Common.{None, Some}
use Prim.Native.Nat.{ℕ, ◌+◌, ◌≤◌, ◌<◌}
use mathlib.Core.Path.{◌≡◌, refl, sym, ap, ◌∙◌}
use mathlib.Core.List.{List}
use native.Mathlib.Omega.{arith}
use lib.ListN.{length, drop, set, length-set}
use lib.Seq.{drop-set-lt, drop-drop}
use Rattle.case_support.specs.Lines.{LineRead}

module _ (before : List ℕ) where
  -- i bytes of a line were read
  pub record Reading (line byte : List ℕ) (i : ℕ) : Type 0 where
    pub within : i ≤ length line
    pub same_length : length line ≡ length before
    pub one : length byte ≡ 1
    pub kept : drop i line ≡ drop i before

  pub reading_start : (byte : List ℕ) → length byte ≡ 1 → Reading before byte 0
  reading_start byte h = record { within = omega arith; same_length = refl; one = h; kept = refl }

  module _ (line byte : List ℕ) (i : ℕ) (r : Reading line byte i) where
    pub reading_next : i < length before → (b : ℕ) (byte' : List ℕ) → length byte' ≡ length byte → Reading (set line i b) byte' (i + 1)
    reading_next h b byte' e =
        record {
          within = rw length-set (omega (arith, r.same_length));
          same_length = length-set line i b ∙ r.same_length;
          one = e ∙ r.one;
          kept = drop-set-lt (i + 1) line i b (omega arith) ∙ sym (drop-drop 1 i line) ∙ ap (drop 1) r.kept ∙ drop-drop 1 i before;
        }

    pub line_read : LineRead (Some i) before line
    unfolding LineRead
    line_read = (omega (arith, r.within, r.same_length), r.kept)

    pub none_read : i ≡ 0 → LineRead None before line
    unfolding LineRead
    none_read e = rw e at r.kept

    pub whole_read : length before ≤ i → LineRead (Some (length line)) before line
    unfolding LineRead
    whole_read h = let e : length line ≡ i = omega (arith, r.within, r.same_length) in (omega (arith, r.same_length), rw e r.kept)
