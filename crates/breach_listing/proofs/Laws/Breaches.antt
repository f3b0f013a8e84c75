-- A breach, written piece after piece: one rule for each way out of the functions that write it. From the definitions of Lines and Writing and the laws on
-- writing of `text`.
use Prim.Native.Nat.{ℕ, ◌+◌, ◌≤◌, ◌<◌, ◌^◌}
use mathlib.Core.Path.{◌≡◌, refl, sym, ◌∙◌}
use mathlib.Core.List.{List, [], ◌∷◌, ◌++◌}
use native.Mathlib.Omega.{arith}
use lib.ListN.{length, replicate, replicate-append-replicate, length-replicate}
use borrow.Author.Tests.{ne_eqb}
use Rattle.text.specs.Texts.{bytes}
use Rattle.text.specs.Writing.{Writes}
use Rattle.text.specs.declared.writing.Writer.{Writer}
use Rattle.text.proofs.Laws.Writing.{wrote_none, wrote_then}
use Rattle.address_text.specs.Digits.{in_decimal}
use Rattle.publishing.specs.Listing.{entry}
use Rattle.breach_listing.specs.Lines.{rule_text, breach_text, head_text, caret_text}

-- `rule_text`
module _ (rule : ℕ) where
  pub rule_is : (k : ℕ) → rule ≡ k → (xs : List ℕ) → xs ≡ rule_text k → xs ≡ rule_text rule
  rule_is k h xs e = rw h e

  pub last_is : (rule ≡ 1 → ⊥) → (rule ≡ 2 → ⊥) → (rule ≡ 3 → ⊥) → (rule ≡ 4 → ⊥) → (rule ≡ 5 → ⊥) → (rule ≡ 6 → ⊥) → (rule ≡ 7 → ⊥) → (rule ≡ 8 → ⊥)
      → (rule ≡ 9 → ⊥) → bytes "name and text together under 450 bytes" ≡ rule_text rule
  unfolding rule_text
  last_is a b c d e f g h i =
      rw (ne_eqb rule 1 a, ne_eqb rule 2 b, ne_eqb rule 3 c, ne_eqb rule 4 d, ne_eqb rule 5 e, ne_eqb rule 6 f, ne_eqb rule 7 g, ne_eqb rule 8 h, ne_eqb rule 9 i)

-- one text after another
pub writes_then : (xs ys : List ℕ) (a b c : Writer) → Writes xs a b → Writes ys b c → Writes (xs ++ ys) a c
writes_then xs ys a b c v w =
    record { wrote = wrote_then a.out.now a.at xs ys b.out.now c.out.now b.at c.at v.wrote w.wrote; same = w.same ∙ v.same }

-- `put_spaces`
module _ (n : ℕ) (out : Writer) where
  pub record Spaced (now : Writer) (i : ℕ) : Type 0 where
    pub within : i ≤ n
    pub wrote : Writes (replicate i 32) out now

  pub spaced_start : out.at < 2 ^ 64 → length out.out.now < 2 ^ 64 → Spaced out 0
  spaced_start h k = record { within = omega arith; wrote = record { wrote = wrote_none out.out.now out.at (omega arith) (omega arith); same = refl } }

  module _ (now : Writer) (i : ℕ) (w : Spaced now i) where
    pub spaced_next : i < n → (after : Writer) → Writes (32 ∷ []) now after → Spaced after (i + 1)
    spaced_next h after u =
        record {
          within = omega arith;
          wrote = rw (← replicate-append-replicate {A = ℕ} i 1 32) (writes_then (replicate i 32) (32 ∷ []) out now after w.wrote u);
        }

    pub spaced_end : n ≤ i → Writes (replicate n 32) out now
    spaced_end h = let e : n ≡ i = omega (arith, w.within) in rw e w.wrote

-- the other pieces
module _ (a b c : Writer) where
  -- `put_record`
  pub record_written : (s : List ℕ) → Writes s a b → Writes (10 ∷ []) b c → Writes (s ++ bytes "\n") a c
  record_written s u v = writes_then s (10 ∷ []) a b c u v

  -- `put_caret`
  pub caret_written : (place : ℕ) → Writes (replicate place 32) a b → Writes (bytes "^\n") b c → Writes (caret_text place) a c
  unfolding caret_text
  caret_written place u v = writes_then (replicate place 32) (bytes "^\n") a b c u v

  module _ (rule place : ℕ) (d : Writer) where
    -- `put_head`
    pub head_written : (e f g : Writer) → Writes (in_decimal rule) a b → Writes (bytes " at ") b c → Writes (in_decimal place) c d → Writes (bytes ": ") d e
        → (xs : List ℕ) → xs ≡ rule_text rule → Writes xs e f → Writes (10 ∷ []) f g → Writes (head_text (entry rule place)) a g
    unfolding head_text
    head_written e f g u v w x xs h y z =
        writes_then _ _ a f g (writes_then _ _ a e f (writes_then _ _ a d e (writes_then _ _ a c d (writes_then _ _ a b c u v) w) x) (rw h at y)) z

    -- `put_breach`
    pub breach_written : (s : List ℕ) → Writes (head_text (entry rule place)) a b → Writes (s ++ bytes "\n") b c → Writes (caret_text place) c d
        → Writes (breach_text s (entry rule place)) a d
    unfolding breach_text head_text caret_text
    breach_written s u v w = writes_then _ _ a c d (writes_then _ _ a b c u v) w

-- `buffer`; its proof names the number, since `search` would build the list
pub so_long : (n : ℕ) → n ≡ length {A = ℕ} (replicate n 0)
so_long n = sym (length-replicate {A = ℕ} n 0)
