-- Macro strings as the code reads them: piece after piece from the front, total on any bytes. The laws say that this is what the productions
-- make.
use Rattle.std.specs.Prelude.{ℕ, zero, suc, ◌+◌, ◌-◌, List, [], ◌∷◌, Bool, true, false, cond, not, ◌&&◌, ◌||◌, length, drop, eqb, Option, Some, None}
use Rattle.text.specs.Bytes.{at, part, lower, is_dot, is_alphanumeric, is_digit, is_toplabel_byte, is_macro_literal, is_space}
use Rattle.text.specs.Lists.{all, split}
use Rattle.text.specs.Runs.{is_in, run_end}
use Rattle.text.specs.declared.bytes.Class.TheVariants.{Digit, Delimiter}
use Rattle.domain.specs.Normal.{without_dot}
use Rattle.macros.specs.Grammar.{Macro, Piece, literal, escape, expand, is_letter, is_part_count}
use Rattle.macros.specs.declared.Form.{Form}
use Rattle.macros.specs.declared.Form.TheVariants.{DomainSpec, ModifierValue, Explanation}
use Rattle.macros.specs.declared.pieces.Braces.{Braces}
use Rattle.macros.specs.declared.pieces.Found.{Found}
use Rattle.macros.specs.declared.Summary.{Summary}

-- a byte that stands for itself: a macro-literal; in explanation text a space too
unfoldable pub is_literal : Form → ℕ → Bool
is_literal DomainSpec b = is_macro_literal b
is_literal ModifierValue b = is_macro_literal b
is_literal Explanation b = is_macro_literal b || is_space b

-- the second byte of `%%`, `%_` or `%-`
unfoldable pub is_escape : ℕ → Bool
is_escape b = eqb b 37 || (eqb b 95 || eqb b 45)

-- r, in either case
unfoldable pub is_reverse : ℕ → Bool
is_reverse b = eqb (lower b) 114

-- the macro in braces at the front, with its digits up to d: whether r follows, then the delimiters, then the brace
unfoldable pub closed_at : List ℕ → ℕ → Bool → ℕ → ℕ → Option Found
closed_at s d reversed from to =
    cond (eqb (at s to) 125) (Some (Found.Expand (record { letter = at s 2; digits = d; reversed = reversed; delimiters = record { from = from; to = to } }))) None

unfoldable pub delimiters_at : List ℕ → ℕ → Bool → ℕ → Option Found
delimiters_at s d reversed from = closed_at s d reversed from (run_end (is_in Delimiter) s from)

unfoldable pub reversal_at : List ℕ → ℕ → Option Found
reversal_at s d = cond (is_reverse (at s d)) (delimiters_at s d true (d + 1)) (delimiters_at s d false d)

unfoldable pub digits_at : List ℕ → ℕ → Option Found
digits_at s d = cond (is_part_count (part s 3 d)) (reversal_at s d) None

unfoldable pub braces_of : Form → List ℕ → Option Found
braces_of form s = cond (is_letter form (at s 2)) (digits_at s (run_end (is_in Digit) s 3)) None

-- the piece at the front; none at the end, and where what stands there is none
unfoldable pub piece_of : Form → List ℕ → Option Found
piece_of form s =
    cond (eqb (length s) 0) None
    (cond (eqb (at s 0) 37)
    (cond (is_escape (at s 1)) (Some (Found.Escape (at s 1))) (cond (eqb (at s 1) 123) (braces_of form s) None))
    (cond (is_literal form (at s 0)) (Some (Found.Literal (at s 0))) None))

-- a macro in braces in the grammar's words
unfoldable pub macro_of : List ℕ → Braces → Macro
macro_of s m =
    record { letter = m.letter; digits = part s 3 m.digits; reversed = m.reversed; delimiters = part s m.delimiters.from m.delimiters.to }

-- the pieces up to the end or to where none stands, and whether that is the end; at most f of them
pub record Pieces : Type 0 where
  pub list : List Piece
  pub whole : Bool

abbrev pub push : Piece → Pieces → Pieces
push p ps = record { list = p ∷ ps.list; whole = ps.whole }

unfoldable pub pieces_after : List ℕ → Option Found → (List ℕ → Pieces) → Pieces
pieces_after s None rest = record { list = []; whole = eqb (length s) 0 }
pieces_after s (Some (Found.Literal b)) rest = push (literal b) (rest (drop 1 s))
pieces_after s (Some (Found.Escape b)) rest = push (escape b) (rest (drop 2 s))
pieces_after s (Some (Found.Expand m)) rest = push (expand (macro_of s m)) (rest (drop (m.delimiters.to + 1) s))

unfoldable pub pieces_from : ℕ → Form → List ℕ → Pieces
pieces_from zero form s = record { list = []; whole = false }
pieces_from (suc f) form s = pieces_after s (piece_of form s) (pieces_from f form)

unfoldable pub pieces : Form → List ℕ → Pieces
pieces form s = pieces_from (suc (length s)) form s

-- whether the last piece is a macro-expand
unfoldable pub ends_in_macro : List Piece → Bool
ends_in_macro [] = false
ends_in_macro (literal b ∷ []) = false
ends_in_macro (escape b ∷ []) = true
ends_in_macro (expand m ∷ []) = true
ends_in_macro (p ∷ q ∷ ps) = ends_in_macro (q ∷ ps)

-- "A top label is letters, digits and hyphens, begins and ends with a letter or digit, and isn't all digits."
unfoldable pub is_toplabel : List ℕ → Bool
is_toplabel l = all is_toplabel_byte l && (is_alphanumeric (at l 0) && (is_alphanumeric (at l (length l - 1)) && not (all is_digit l)))

-- what stands after the last dot; nothing where there is no dot
unfoldable pub last_label : List (List ℕ) → List ℕ
last_label [] = []
last_label (x ∷ []) = []
last_label (x ∷ y ∷ []) = y
last_label (x ∷ y ∷ z ∷ r) = last_label (y ∷ z ∷ r)

-- whether a text ends in a dot and a top label, perhaps with one more dot
unfoldable pub ends_in_label : List ℕ → Bool
ends_in_label s = is_toplabel (last_label (split is_dot (without_dot s)))

-- "A domain-spec ends in a macro or in a dot and a top label (perhaps one more dot)."
unfoldable pub ends_right : Form → List ℕ → Bool
ends_right DomainSpec s = ends_in_macro (pieces DomainSpec s).list || ends_in_label s
ends_right ModifierValue s = true
ends_right Explanation s = true

-- whether a text is of the form
unfoldable pub is_macro_string : Form → List ℕ → Bool
is_macro_string form s = (pieces form s).whole && ends_right form s

-- whether a p macro stands among pieces
unfoldable pub is_p : Piece → Bool
is_p (literal b) = false
is_p (escape b) = false
is_p (expand m) = eqb (lower m.letter) 112

unfoldable pub any_p : List Piece → Bool
any_p [] = false
any_p (p ∷ ps) = is_p p || any_p ps

-- what one walk over a text tells: whether it is whole, whether its last piece is a macro-expand, whether a p macro stands in it
unfoldable pub scan_of : Form → List ℕ → Summary
scan_of form s =
    record { whole = (pieces form s).whole; expands = ends_in_macro (pieces form s).list; asks = any_p (pieces form s).list }

unfoldable pub uses_p : Form → List ℕ → Bool
uses_p form s = any_p (pieces form s).list
