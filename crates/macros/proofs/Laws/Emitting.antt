-- The texts of pieces, written one after the other: a rule for each way out of the functions that write them. From the definitions of Expansion
-- and the laws of Pieces and of writing.
use Rattle.std.proofs.Common.{Option, Some, None}
use Prim.Native.Nat.{ℕ, ◌+◌, ◌-◌, ◌≤◌, ◌<◌, ◌^◌}
use mathlib.Core.Path.{◌≡◌, refl, sym, ap, ◌∙◌}
use mathlib.Core.List.{List, [], ◌∷◌, ◌++◌, append-nil, append_assoc}
use mathlib.Core.Bool.{Bool}
use native.Mathlib.Omega.{arith}
use lib.ListN.{length, take, drop, length-take, length-drop}
use borrow.Author.Tests.{ne_eqb}
use Rattle.text.specs.Bytes.{part, lower}
use Rattle.text.specs.Runs.{is_in}
use Rattle.text.specs.Texts.{bytes}
use Rattle.text.specs.Writing.{Wrote}
use Rattle.text.specs.declared.bytes.Class.TheVariants.{Upper}
use Rattle.text.proofs.Laws.Spans.{rest_part}
use Rattle.text.proofs.Laws.Writing.{wrote_none, wrote_then}
use Rattle.transformers.specs.Transform.{transformed}
use Rattle.macros.specs.Grammar.{Piece, literal, escape, expand}
use Rattle.macros.specs.Reader.{piece_of, macro_of, Pieces, push, pieces}
use Rattle.macros.specs.Expansion.{Letters, letter_value, escape_text, piece_text, text_of}
use Rattle.macros.specs.declared.Form.{Form}
use Rattle.macros.specs.declared.pieces.Braces.{Braces}
use Rattle.macros.specs.declared.pieces.Found.{Found}
use Rattle.macros.proofs.Laws.Pieces.{piece_right, pieces_end, pieces_literal, pieces_escape, pieces_expand}

-- `Letters::value`, `put_escape`: none of the bytes tested for
pub other_value : (x : Letters) (b l : ℕ) → l ≡ lower b → (l ≡ 115 → ⊥) → (l ≡ 108 → ⊥) → (l ≡ 111 → ⊥) → (l ≡ 100 → ⊥) → (l ≡ 105 → ⊥) → (l ≡ 112 → ⊥)
    → (l ≡ 118 → ⊥) → (l ≡ 104 → ⊥) → (l ≡ 99 → ⊥) → (l ≡ 114 → ⊥) → x.t ≡ letter_value x (lower b)
unfolding letter_value
other_value x b l e n₁ n₂ n₃ n₄ n₅ n₆ n₇ n₈ n₉ n =
    simp (← e, ne_eqb l 115 n₁, ne_eqb l 108 n₂, ne_eqb l 111 n₃, ne_eqb l 100 n₄, ne_eqb l 105 n₅, ne_eqb l 112 n₆, ne_eqb l 118 n₇, ne_eqb l 104 n₈, ne_eqb l 99 n₉, ne_eqb l 114 n)

pub other_escape : (b : ℕ) → (b ≡ 37 → ⊥) → (b ≡ 95 → ⊥) → escape_text b ≡ bytes "%20"
unfolding escape_text
other_escape b m n = simp (ne_eqb b 37 m, ne_eqb b 95 n)

-- `put_macro`
pub macro_written : (x : Letters) (text : List ℕ) (m : Braces) (digits : List ℕ) → digits ≡ part text 3 m.digits
    → (delimiters : List ℕ) → delimiters ≡ part text m.delimiters.from m.delimiters.to → (e : Bool) → e ≡ is_in Upper m.letter
    → (value : List ℕ) → value ≡ letter_value x (lower m.letter)
    → (out : List ℕ) (n : ℕ) (o : List ℕ) (k : ℕ) → Wrote (transformed digits m.reversed delimiters e value) out n o k
    → Wrote (piece_text x (expand (macro_of text m))) out n o k
unfolding piece_text macro_of is_in
macro_written x text m digits p delimiters q e h value v out n o k w = rw (← p, ← q, ← h, ← v) w

-- a piece lies inside of the text
module _ (form : Form) (rest : List ℕ) (f : Found) (p : Some f ≡ piece_of form rest) where
  here : {y : Found} → f ≡ y → piece_of form rest ≡ Some y
  here q = sym p ∙ ap (λ (y : Found). Some y) q

  pub literal_inside : (b : ℕ) → f ≡ Found.Literal b → 1 ≤ length rest
  literal_inside b q = omega (arith, ap length (piece_right form rest (here q)).0)

  pub escape_inside : (b : ℕ) → f ≡ Found.Escape b → 2 ≤ length rest
  escape_inside b q = (piece_right form rest (here q)).inside

  pub expand_inside : (m : Braces) → f ≡ Found.Expand m → m.delimiters.to + 1 ≤ length rest
  expand_inside m q = (piece_right form rest (here q)).inside

-- the loop of `put_text`: what was written of the pieces passed, and what those of the rest are still to write
module _ (x : Letters) (form : Form) (text out : List ℕ) (at : ℕ) where
  pub record Walked (rest : List ℕ) (o : List ℕ) (next : ℕ) : Type 0 where
    pub size : length rest < 2 ^ 64
    pub done : List ℕ
    pub wrote : Wrote done out at o next
    pub left : done ++ text_of x (pieces form rest).list ≡ text_of x (pieces form text).list

  pub walk_start : at < 2 ^ 64 → length out < 2 ^ 64 → length text < 2 ^ 64 → Walked text out at
  walk_start h l k = record { size = k; done = []; wrote = wrote_none out at (omega arith) (omega arith); left = refl }

  module _ (rest o : List ℕ) (next : ℕ) (inv : Walked rest o next) where
    -- no piece is left
    pub walk_end : (r : Option Found) → r ≡ piece_of form rest → r ≡ None → Wrote (text_of x (pieces form text).list) out at o next
    unfolding text_of
    walk_end r p q =
        let z : inv.done ≡ text_of x (pieces form text).list =
        sym (append-nil inv.done) ∙ sym (ap (λ (y : Pieces). inv.done ++ text_of x y.list) (pieces_end form rest (sym p ∙ q))) ∙ inv.left in
        rw (← z) inv.wrote

    -- a piece of k bytes further
    step : (k : ℕ) (p : Piece) → pieces form rest ≡ push p (pieces form (drop k rest))
        → (o' : List ℕ) (next' : ℕ) → Wrote (piece_text x p) o next o' next' → Walked (take (length rest - k) (drop k rest)) o' next'
    unfolding text_of
    step k p e o' next' w =
        let z = inv.size in
        record {
          size = simp (length-take, length-drop) (omega arith);
          done = inv.done ++ piece_text x p;
          wrote = wrote_then out at inv.done (piece_text x p) o o' next next' inv.wrote w;
          left = rw (rest_part rest k) (append_assoc inv.done (piece_text x p) (text_of x (pieces form (drop k rest)).list)
              ∙ sym (ap (λ (y : Pieces). inv.done ++ text_of x y.list) e) ∙ inv.left);
        }

    module _ (f : Found) (p : Some f ≡ piece_of form rest) where
      found : {y : Found} → f ≡ y → piece_of form rest ≡ Some y
      found q = sym p ∙ ap (λ (y : Found). Some y) q

      module _ (b : ℕ) where
        pub walk_literal : f ≡ Found.Literal b → (o' : List ℕ) (next' : ℕ) → Wrote (b ∷ []) o next o' next' → Walked (take (length rest - 1) (drop 1 rest)) o' next'
        unfolding piece_text
        walk_literal q o' next' w = step 1 (literal b) (pieces_literal form rest b (found q)) o' next' w

        pub walk_escape : f ≡ Found.Escape b → (o' : List ℕ) (next' : ℕ) → Wrote (escape_text b) o next o' next' → Walked (take (length rest - 2) (drop 2 rest)) o' next'
        unfolding piece_text
        walk_escape q o' next' w = step 2 (escape b) (pieces_escape form rest b (found q)) o' next' w

      pub walk_expand : (m : Braces) → f ≡ Found.Expand m → (o' : List ℕ) (next' : ℕ) → Wrote (piece_text x (expand (macro_of rest m))) o next o' next'
          → Walked (take (length rest - (m.delimiters.to + 1)) (drop (m.delimiters.to + 1) rest)) o' next'
      walk_expand m q o' next' w = step (m.delimiters.to + 1) (expand (macro_of rest m)) (pieces_expand form rest m (found q)) o' next' w

      pub rest_room : (m : Braces) → f ≡ Found.Expand m → m.delimiters.to + 1 < 2 ^ 64
      rest_room m q = let h = expand_inside form rest f p m q in let z = inv.size in omega arith
