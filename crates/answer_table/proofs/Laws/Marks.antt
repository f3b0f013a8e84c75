-- Marks as the code reads and sets them: one rule for each way out of a function of src/marks.rt. From the laws of `|` on bits.
use Prim.Native.Nat.{ℕ, ◌+◌, ◌*◌, ◌/◌, ◌%◌, ◌^◌, ◌<◌, max}
use mathlib.Core.Path.{◌≡◌, refl, sym, ap, ◌∙◌}
use Rattle.std.specs.List.{fold}
use mathlib.Core.List.{List, [], ◌∷◌}
use mathlib.Core.Bool.{Bool, true, false, ◌&&◌, and-false}
use native.Mathlib.Omega.{arith}
use lib.Bits.{bit_or, or_step, or_shr, or_comm}
use lib.Dec.{eqb}
use lib.ListN.{length, get_or, set}
use lib.Pow.{shl_exact, shl-shr}
use lib.Seq.{get_or-set_same, get_or-set_other}
use borrow.Author.Tests.{eqb-true, eqb-false, eq-eqb}
use Rattle.text.proofs.Laws.Tests.{and_left, and_right, and_both, true_false}
use Rattle.answer_table.specs.Marks.{digest_of, first_mark, second_mark, is_marked, is_pair_marked, Keeps, SetsMark, MarksPair}

-- `digest`: a number over the bytes of the name
digest_turn : (h b : ℕ) → (h * 1664525 % 4294967296 + b) % 4294967296 ≡ (h * 1664525 + b) % 4294967296
digest_turn h b = omega arith

pub digest_fold : (h : ℕ) (name : List ℕ) → digest_of h name ≡ fold (λ x b. (x * 1664525 % 4294967296 + b) % 4294967296) h name
unfolding digest_of
digest_fold h [] = refl
digest_fold h (b ∷ s) = rw digest_turn (digest_fold ((h * 1664525 + b) % 4294967296) s)

-- a bit that is set in a number stays so under `|`
or_keeps : (a b k : ℕ) → a / 2 ^ k % 2 ≡ 1 → bit_or a b / 2 ^ k % 2 ≡ 1
or_keeps a b k h =
    ap (λ (x : ℕ). x % 2) (or_shr a b k ∙ or_step (a / 2 ^ k) (b / 2 ^ k))
    ∙ lowest (bit_or (a / 2 ^ k / 2) (b / 2 ^ k / 2)) (a / 2 ^ k) (b / 2 ^ k) h
  where
    lowest : (r x y : ℕ) → x % 2 ≡ 1 → (r * 2 + max (x % 2) (y % 2)) % 2 ≡ 1
    lowest r x y h = omega arith

-- `| (1 << k)` sets bit k
or_sets : (a k : ℕ) → k < 64 → bit_or a (1 * 2 ^ k % 18446744073709551616) / 2 ^ k % 2 ≡ 1
or_sets a k h =
    ap (λ (x : ℕ). x / 2 ^ k % 2) (ap (bit_or a) (shl_exact 1 k 64 (omega arith) (omega arith)) ∙ or_comm a (1 * 2 ^ k))
    ∙ or_keeps (1 * 2 ^ k) a k (ap (λ (x : ℕ). x % 2) (shl-shr 1 k))

-- `is_marked`: a mark as a bit of its word
module _ (marks : List ℕ) (m : ℕ) where
  abbrev bit : ℕ
  bit = get_or marks (m / 64) 0 / 2 ^ (m % 64) % 2

  pub mark_read : eqb bit 1 ≡ is_marked marks m
  unfolding is_marked
  mark_read = refl

  mark_bit : is_marked marks m ≡ true → bit ≡ 1
  mark_bit h = eqb-true bit 1 (mark_read ∙ h)

  bit_mark : bit ≡ 1 → is_marked marks m ≡ true
  bit_mark h = sym mark_read ∙ eq-eqb bit 1 h

-- `set_mark`
module _ (marks : List ℕ) (mark : ℕ) (words : length marks ≡ 256) (small : mark < 16384) where
  abbrev word : ℕ
  word = bit_or (get_or marks (mark / 64) 0) (1 * 2 ^ (mark % 64) % 18446744073709551616)

  abbrev after : List ℕ
  after = set marks (mark / 64) word

  word_set : (w : ℕ) → w ≡ mark / 64 → get_or after w 0 ≡ word
  word_set w e = rw e (get_or-set_same marks (mark / 64) word 0 (omega arith))

  marks_kept : (m : ℕ) → is_marked marks m ≡ true → is_marked after m ≡ true
  marks_kept m h = bit_mark after m (by (eqb (m / 64) (mark / 64)) refl)
    where
      by : (b : Bool) → eqb (m / 64) (mark / 64) ≡ b → bit after m ≡ 1
      by true q =
          let e = eqb-true (m / 64) (mark / 64) q in
          rw (word_set (m / 64) e) (or_keeps (get_or marks (mark / 64) 0) _ (m % 64) (rw e at (mark_bit marks m h)))
      by false q = rw (get_or-set_other marks (mark / 64) (m / 64) word 0 (eqb-false (m / 64) (mark / 64) q)) (mark_bit marks m h)

  pub mark_set : SetsMark marks mark after
  mark_set = record {
    keeps = marks_kept;
    marked = bit_mark after mark (rw (word_set (mark / 64) refl) (or_sets (get_or marks (mark / 64) 0) (mark % 64) (omega arith)));
  }

-- a pair stays marked
pub pair_kept : (before later : List ℕ) → Keeps before later → (kind : ℕ) (name : List ℕ) → is_pair_marked before kind name ≡ true
    → is_pair_marked later kind name ≡ true
unfolding is_pair_marked
pair_kept before later k kind name h =
    let a = is_marked before (first_mark kind name) in
    let b = is_marked before (second_mark kind name) in
    and_both _ _ (k (first_mark kind name) (and_left a b h)) (k (second_mark kind name) (and_right a b h))

-- `mark_pair`, by the pair's number
module _ (marks : List ℕ) (kind : ℕ) (name : List ℕ) (h : ℕ) (e : h ≡ digest_of kind name) where
  pair_marks : (marks : List ℕ) → is_pair_marked marks kind name ≡ (is_marked marks (h % 16384) && is_marked marks (h / 262144))
  unfolding is_pair_marked first_mark second_mark
  pair_marks marks = rw e

  module _ (a : Bool) (p : a ≡ is_marked marks (h % 16384)) where
    pub first_clear : a ≡ false → is_pair_marked marks kind name ≡ false
    first_clear q = pair_marks marks ∙ simp (sym p ∙ q)

    pub pair_old : a ≡ true → (b : Bool) → b ≡ is_marked marks (h / 262144) → b ≡ true → MarksPair marks kind name false marks
    pair_old q b r s = record {
      keeps = λ m k. k;
      marked = pair_marks marks ∙ and_both _ _ (sym p ∙ q) (sym r ∙ s);
      unmarked = λ n. absurd (true_false false n refl);
    }

  pub second_clear : (b : Bool) → b ≡ is_marked marks (h / 262144) → b ≡ false → is_pair_marked marks kind name ≡ false
  second_clear b r s = pair_marks marks ∙ simp (sym r ∙ s, and-false)

  pub pair_new : is_pair_marked marks kind name ≡ false → (mid after : List ℕ) → SetsMark marks (h % 16384) mid → SetsMark mid (h / 262144) after
      → MarksPair marks kind name true after
  pair_new n mid after f s = record {
    keeps = λ m k. s.keeps m (f.keeps m k);
    marked = pair_marks after ∙ and_both _ _ (s.keeps (h % 16384) f.marked) s.marked;
    unmarked = λ _. n;
  }
