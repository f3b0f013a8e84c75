-- Pieces one after the other: what the reader reads to the end is a row of pieces, and a row of pieces is read so. A row is a macro-string, or an
-- explain-string, with one derivation: each byte for itself, and each macro-expand. From the laws of one macro-expand.
use Rattle.std.proofs.Common.{Option, Some, None}
use Prim.Native.Nat.{ℕ, zero, suc, ◌+◌, ◌<◌}
use mathlib.Core.Path.{◌≡◌, refl, sym, ap, subst, ◌∙◌}
use mathlib.Core.List.{List, [], ◌∷◌, ◌++◌, append_assoc, append-nil}
use mathlib.Core.Bool.{true, false}
use native.Mathlib.Omega.{arith}
use lib.ListN.{length, drop, length-append, length-drop}
use borrow.Author.Tests.{eqb-true}
use Rattle.text.specs.Bytes.{within, is_macro_literal, is_space}
use Rattle.text.proofs.Laws.Tests.{or_elim, or_left, true_false}
use Rattle.text.proofs.Laws.Classes.{space_is}
use Rattle.macros.specs.Grammar.{Piece, literal, escape, expand, MacroExpand, MacroString, ExplainString}
use Rattle.macros.specs.Reader.{is_literal, piece_of, macro_of, Pieces, push, pieces_after, pieces_from, pieces}
use Rattle.macros.specs.declared.Form.{Form}
use Rattle.macros.specs.declared.Form.TheVariants.{Explanation}
use Rattle.macros.specs.declared.pieces.Found.{Found}
use Rattle.macros.proofs.Laws.Braces.{Expanded, FoundRight, empty_of, piece_sound, expand_complete, literal_complete, expand_some}

pub data Row (form : Form) : List ℕ → List Piece → Type 0 where
  none : Row form [] []
  expands : {w rest : List ℕ} {p : Piece} {ps : List Piece} → MacroExpand form w p → Row form rest ps → Row form (w ++ rest) (p ∷ ps)
  literals : {b : ℕ} {rest : List ℕ} {ps : List Piece} → is_literal form b ≡ true → Row form rest ps → Row form (b ∷ rest) (literal b ∷ ps)

row_at : {form : Form} {s t : List ℕ} {ps : List Piece} → s ≡ t → Row form t ps → Row form s ps
row_at {form} {s} {t} {ps} e r = subst (λ (x : List ℕ). Row form x ps) (sym e) r

-- what is read to the end
row_expand : (form : Form) (s : List ℕ) (n : ℕ) (p : Piece) (ps : List Piece) → Expanded form s n p → Row form (drop n s) ps → Row form s (p ∷ ps)
row_expand form s n p ps x r = row_at x.span.split (expands x.made r)

fuel_sound : (f : ℕ) (form : Form) (s : List ℕ) → (pieces_from f form s).whole ≡ true → Row form s (pieces_from f form s).list
unfolding pieces_from pieces_after
fuel_sound zero form s h = absurd (true_false false h refl)
fuel_sound (suc f) form s h = go (λ t. fuel_sound f form t) (piece_of form s) (piece_sound form s) h
  where
    go : ((t : List ℕ) → (pieces_from f form t).whole ≡ true → Row form t (pieces_from f form t).list) → (x : Option Found) → FoundRight form s x
        → (pieces_after s x (pieces_from f form)).whole ≡ true → Row form s (pieces_after s x (pieces_from f form)).list
    go ih None q h = row_at (empty_of s (eqb-true (length s) 0 h)) none
    go ih (Some (Found.Literal b)) q h = row_at q.0 (literals q.1 (ih (drop 1 s) h))
    go ih (Some (Found.Escape b)) q h = row_expand form s 2 (escape b) (pieces_from f form (drop 2 s)).list q (ih (drop 2 s) h)
    go ih (Some (Found.Expand m)) q h = row_expand form s (m.delimiters.to + 1) (expand (macro_of s m)) (pieces_from f form (drop (m.delimiters.to + 1) s)).list q (ih (drop (m.delimiters.to + 1) s) h)

pub row_sound : (form : Form) (s : List ℕ) → (pieces form s).whole ≡ true → Row form s (pieces form s).list
unfolding pieces
row_sound form s h = fuel_sound (suc (length s)) form s h

-- a row is read to the end
abbrev read : List Piece → Pieces
read ps = record { list = ps; whole = true }

empty_complete : (form : Form) (after : List ℕ → Pieces) → pieces_after [] (piece_of form []) after ≡ read []
unfolding piece_of pieces_after
empty_complete form after = refl

fuel_complete : {form : Form} {s : List ℕ} {ps : List Piece} → Row form s ps → (f : ℕ) → length s < f → pieces_from f form s ≡ read ps
unfolding pieces_from
fuel_complete r zero h = absurd (omega arith)
fuel_complete {form} none (suc f) h = empty_complete form (pieces_from f form)
fuel_complete {form} (expands {w = w} {rest = rest} {p = p} m r) (suc f) h =
    expand_complete m rest (pieces_from f form) ∙ ap (push p) (fuel_complete r f (omega (arith, expand_some m, length-append w rest)))
fuel_complete {form} (literals {b = b} {rest = rest} k r) (suc f) h =
    literal_complete form b rest (pieces_from f form) k ∙ ap (push (literal b)) (fuel_complete r f (omega arith))

pub row_complete : {form : Form} {s : List ℕ} {ps : List Piece} → Row form s ps → pieces form s ≡ read ps
unfolding pieces
row_complete {form} {s} r = fuel_complete r (suc (length s)) (omega arith)

-- each piece takes at least one byte, so there is enough fuel: the pieces of a text are the one at the front and those of the rest
enough : (n m : ℕ) (form : Form) (s : List ℕ) → length s < n → length s < m → pieces_from n form s ≡ pieces_from m form s
unfolding pieces_from pieces_after
enough zero m form s h k = absurd (omega arith)
enough (suc n) zero form s h k = absurd (omega arith)
enough (suc n) (suc m) form s h k = go (λ t. enough n m form t) (piece_of form s) (piece_sound form s)
  where
    go : ((t : List ℕ) → length t < n → length t < m → pieces_from n form t ≡ pieces_from m form t) → (x : Option Found) → FoundRight form s x
        → pieces_after s x (pieces_from n form) ≡ pieces_after s x (pieces_from m form)
    go ih None q = refl
    go ih (Some (Found.Literal b)) q =
        ap (push (literal b)) (ih (drop 1 s) (omega (arith, ap length q.0)) (omega (arith, ap length q.0)))
    go ih (Some (Found.Escape b)) q = let l = q.inside in ap (push (escape b)) (ih (drop 2 s) (omega (arith, length-drop 2 s)) (omega (arith, length-drop 2 s)))
    go ih (Some (Found.Expand x)) q =
        let l = q.inside in
        ap (push (expand (macro_of s x))) (ih (drop (x.delimiters.to + 1) s) (omega (arith, length-drop (x.delimiters.to + 1) s)) (omega (arith, length-drop (x.delimiters.to + 1) s)))

after_same : (s : List ℕ) (x : Option Found) (f g : List ℕ → Pieces) → ((n : ℕ) → f (drop n s) ≡ g (drop n s)) → pieces_after s x f ≡ pieces_after s x g
unfolding pieces_after
after_same s None f g h = refl
after_same s (Some (Found.Literal b)) f g h = ap (push (literal b)) (h 1)
after_same s (Some (Found.Escape b)) f g h = ap (push (escape b)) (h 2)
after_same s (Some (Found.Expand m)) f g h = ap (push (expand (macro_of s m))) (h (m.delimiters.to + 1))

pub pieces_next : (form : Form) (s : List ℕ) → pieces form s ≡ pieces_after s (piece_of form s) (pieces form)
unfolding pieces pieces_from
pieces_next form s =
    enough (suc (length s)) (suc (suc (length s))) form s (omega arith) (omega arith)
    ∙ after_same s (piece_of form s) (pieces_from (suc (length s)) form) (pieces form)
    (λ n. enough (suc (length s)) (suc (length (drop n s))) form (drop n s) (omega (arith, length-drop n s)) (omega arith))

-- rows as macro-strings
pub string_row : {form : Form} → ((b : ℕ) → is_macro_literal b ≡ true → is_literal form b ≡ true) → {s rest : List ℕ} {ps qs : List Piece}
    → MacroString form s ps → Row form rest qs → Row form (s ++ rest) (ps ++ qs)
string_row h MacroString.none r = r
string_row {form} h {rest = rest} (MacroString.expands {w = w} {rest = t} m d) r =
    row_at (append_assoc w t rest) (expands m (string_row h d r))
string_row h (MacroString.literals {b = b} k d) r = literals (h b k) (string_row h d r)

pub row_string : {form : Form} → ((b : ℕ) → is_literal form b ≡ true → is_macro_literal b ≡ true) → {s : List ℕ} {ps : List Piece} → Row form s ps → MacroString form s ps
row_string h none = MacroString.none
row_string h (expands m r) = MacroString.expands m (row_string h r)
row_string h (literals {b = b} k r) = MacroString.literals (h b k) (row_string h r)

-- rows as explain-strings
space_literal : is_literal Explanation 32 ≡ true
unfolding is_literal is_macro_literal is_space within
space_literal = refl

pub explain_row : {s : List ℕ} {ps : List Piece} → ExplainString s ps → Row Explanation s ps
unfolding is_literal
explain_row ExplainString.none = none
explain_row (ExplainString.string m d) = string_row (λ b h. or_left (is_macro_literal b) (is_space b) h) m (explain_row d)
explain_row (ExplainString.space d) = literals space_literal (explain_row d)

pub row_explain : {s : List ℕ} {ps : List Piece} → Row Explanation s ps → ExplainString s ps
unfolding is_literal
row_explain none = ExplainString.none
row_explain (expands {w = w} {rest = rest} {p = p} {ps = ps} m r) =
    rw append-nil at (ExplainString.string (MacroString.expands m MacroString.none) (row_explain r))
row_explain (literals {b = b} {rest = rest} {ps = ps} k r) = or_elim (is_macro_literal b) (is_space b) k
    (λ h. ExplainString.string (MacroString.literals h MacroString.none) (row_explain r))
    (λ h. subst (λ (c : ℕ). ExplainString (c ∷ rest) (literal c ∷ ps)) (sym (space_is b h)) (ExplainString.space (row_explain r)))
