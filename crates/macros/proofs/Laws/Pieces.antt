-- The piece at the front of a text: what it takes of the text. The pieces of a text: one step of the walk by what stands at the front. From
-- the laws of one macro-expand and of macro strings.
use Rattle.std.proofs.Common.{Option, Some, None}
use Prim.Native.Nat.{ℕ, ◌+◌, ◌-◌, ◌≤◌, ◌<◌}
use mathlib.Core.Path.{◌≡◌, refl, sym, ap, subst, ◌∙◌}
use mathlib.Core.List.{List, [], ◌∷◌}
use mathlib.Core.Bool.{true}
use native.Mathlib.Omega.{arith}
use lib.ListN.{length, take, drop, length-drop}
use lib.Dec.{eqb}
use borrow.Author.Tests.{eq-eqb}
use Rattle.text.specs.Bytes.{at}
use Rattle.text.proofs.Laws.Classes.{class_inside}
use Rattle.text.proofs.Laws.Spans.{rest_part}
use Rattle.macros.specs.Grammar.{literal, escape, expand}
use Rattle.macros.specs.Reader.{is_reverse, piece_of, macro_of, push, pieces_after, pieces}
use Rattle.macros.specs.declared.Form.{Form}
use Rattle.macros.specs.declared.pieces.Braces.{Braces}
use Rattle.macros.specs.declared.pieces.Found.{Found}
use Rattle.macros.proofs.Laws.Braces.{FoundRight, reverse_zero, piece_sound}
use Rattle.macros.proofs.Laws.Strings.{pieces_next}

-- r, in either case, lies inside
pub reverse_inside : (s : List ℕ) (i : ℕ) → is_reverse (at s i) ≡ true → i < length s
reverse_inside s i h = class_inside is_reverse reverse_zero s i h

-- what an answer says
pub piece_right : (form : Form) (s : List ℕ) {x : Option Found} → piece_of form s ≡ x → FoundRight form s x
piece_right form s e = subst (FoundRight form s) e (piece_sound form s)

-- the piece at a place of a text, as the walks read it
module _ (form : Form) (text : List ℕ) (at : ℕ) (r : Option Found) (p : r ≡ piece_of form (take (length text - at) (drop at text))) where
  pub found_at : {x : Option Found} → r ≡ x → piece_of form (drop at text) ≡ x
  found_at q = ap (piece_of form) (sym (rest_part text at)) ∙ sym p ∙ q

  pub escape_within : (b : ℕ) → r ≡ Some (Found.Escape b) → at + 2 ≤ length text
  escape_within b q = omega (arith, (piece_right form (drop at text) (found_at q)).inside, length-drop at text)

  pub expand_within : (m : Braces) → r ≡ Some (Found.Expand m) → at + (m.delimiters.to + 1) ≤ length text
  expand_within m q = omega (arith, (piece_right form (drop at text) (found_at q)).inside, length-drop at text)

-- at the end of a text stands nothing
pub piece_none : (form : Form) (s : List ℕ) → length s ≡ 0 → piece_of form s ≡ None
unfolding piece_of
piece_none form [] h = refl
piece_none form (b ∷ s) h = absurd (omega arith)

-- the pieces of a text, by what stands at its front
module _ (form : Form) (s : List ℕ) where
  after : {x : Option Found} → piece_of form s ≡ x → pieces form s ≡ pieces_after s x (pieces form)
  after e = pieces_next form s ∙ ap (λ (x : Option Found). pieces_after s x (pieces form)) e

  pub pieces_end : piece_of form s ≡ None → pieces form s ≡ record { list = []; whole = eqb (length s) 0 }
  unfolding pieces_after
  pieces_end e = after e

  pub pieces_literal : (b : ℕ) → piece_of form s ≡ Some (Found.Literal b) → pieces form s ≡ push (literal b) (pieces form (drop 1 s))
  unfolding pieces_after
  pieces_literal b e = after e

  pub pieces_escape : (b : ℕ) → piece_of form s ≡ Some (Found.Escape b) → pieces form s ≡ push (escape b) (pieces form (drop 2 s))
  unfolding pieces_after
  pieces_escape b e = after e

  pub pieces_expand : (m : Braces) → piece_of form s ≡ Some (Found.Expand m) → pieces form s ≡ push (expand (macro_of s m)) (pieces form (drop (m.delimiters.to + 1) s))
  unfolding pieces_after
  pieces_expand m e = after e

-- no pieces in nothing
pub pieces_none : (form : Form) (s : List ℕ) → length s ≡ 0 → pieces form s ≡ record { list = []; whole = true }
pieces_none form s h = rw (eq-eqb (length s) 0 h) at (pieces_end form s (piece_none form s h))
