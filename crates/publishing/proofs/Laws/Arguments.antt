-- Every domain-spec is a macro-string of an unknown modifier's letters, with the same pieces (`spec_string`): so the words of rule (2) hold of every
-- argument that is no network. From macros' completeness.
use Prim.Native.Nat.{ℕ}
use mathlib.Core.Path.{◌≡◌, subst}
use mathlib.Core.List.{List, [], ◌∷◌, ◌++◌}
use mathlib.Core.Bool.{true}
use native.Mathlib.Omega.{arith}
use lib.Dec.{eqb}
use Rattle.text.specs.Bytes.{lower}
use Rattle.text.specs.Lists.{contains}
use Rattle.text.specs.Texts.{bytes}
use Rattle.text.proofs.Laws.Tests.{and_left, or_elim, or_left, or_right}
use Rattle.macros.specs.declared.Form.{Form}
use Rattle.macros.specs.Grammar.{Piece, MacroExpand, MacroString, DomainSpec, is_letter}
use Rattle.macros.specs.Reader.{pieces, is_literal, ends_right, is_macro_string}
use Rattle.macros.proofs.Laws.Strings.{Row, row_sound}
use Rattle.macros.proofs.Laws.Completeness.{complete}

contains_more : (xs ys : List ℕ) (b : ℕ) → contains xs b ≡ true → contains (xs ++ ys) b ≡ true
unfolding contains
contains_more [] ys b h = let z : ◌≡◌ {A = ℕ} 0 1 = cc in absurd (omega arith)
contains_more (x ∷ xs) ys b h = or_elim (eqb b x) (contains xs b) h
    (λ e. or_left (eqb b x) (contains (xs ++ ys) b) e) (λ e. or_right (eqb b x) (contains (xs ++ ys) b) (contains_more xs ys b e))

expand_wider : {w : List ℕ} {p : Piece} → MacroExpand Form.DomainSpec w p → MacroExpand Form.ModifierValue w p
unfolding is_letter
expand_wider (MacroExpand.braces {letter = letter} l c r d) = MacroExpand.braces (contains_more (bytes "slodipvh") (bytes "crt") (lower letter) l) c r d
expand_wider MacroExpand.percent = MacroExpand.percent
expand_wider MacroExpand.underscore = MacroExpand.underscore
expand_wider MacroExpand.hyphen = MacroExpand.hyphen

row_string : {s : List ℕ} {ps : List Piece} → Row Form.DomainSpec s ps → MacroString Form.ModifierValue s ps
unfolding is_literal
row_string Row.none = MacroString.none
row_string (Row.expands m r) = MacroString.expands (expand_wider m) (row_string r)
row_string (Row.literals l r) = MacroString.literals l (row_string r)

pub spec_string : {s : List ℕ} {ps : List Piece} → DomainSpec s ps → MacroString Form.ModifierValue s ps
unfolding is_macro_string
spec_string {s} {ps} d =
    let c = complete Form.DomainSpec s ps d in
    subst (MacroString Form.ModifierValue s) c.1 (row_string (row_sound Form.DomainSpec s (and_left (pieces Form.DomainSpec s).whole (ends_right Form.DomainSpec s) c.0)))
