-- What the grammar produces is accepted, with exactly these pieces; so a text has one list of pieces. From the laws of strings and of endings.
use Prim.Native.Nat.{ℕ}
use mathlib.Core.Path.{◌≡◌, refl, sym, ap, ◌∙◌}
use mathlib.Core.List.{List, append-nil}
use mathlib.Core.Logic.{◌↔◌}
use mathlib.Core.Bool.{true, ◌||◌}
use Rattle.text.proofs.Laws.Tests.{and_both}
use Rattle.macros.specs.declared.Form.{Form}
use Rattle.macros.specs.declared.Form.TheVariants.{DomainSpec, ModifierValue, Explanation}
use Rattle.macros.specs.Grammar.{Piece, Produces}
use Rattle.macros.specs.Reader.{is_literal, Pieces, pieces, ends_in_macro, ends_in_label, ends_right, is_macro_string}
use Rattle.macros.proofs.Laws.Strings.{Row, none, row_complete, string_row, explain_row}
use Rattle.macros.proofs.Laws.Endings.{spec_row, ending_complete}
use Rattle.macros.proofs.Laws.Soundness.{sound}

-- what each form produces is a row of its pieces, and ends rightly
produces_row : (form : Form) (s : List ℕ) (ps : List Piece) → Produces form s ps → Row form s ps
unfolding is_literal
produces_row DomainSpec s ps d = spec_row d
produces_row ModifierValue s ps d = simp append-nil at (string_row (λ b k. k) d none)
produces_row Explanation s ps d = explain_row d

produces_ends : (form : Form) (s : List ℕ) (ps : List Piece) → Produces form s ps → (pieces form s).list ≡ ps → ends_right form s ≡ true
unfolding ends_right
produces_ends DomainSpec s ps d e = ap (λ (x : List Piece). ends_in_macro x || ends_in_label s) e ∙ ending_complete d
produces_ends ModifierValue s ps d e = refl
produces_ends Explanation s ps d e = refl

pub complete : (form : Form) (s : List ℕ) (ps : List Piece) → Produces form s ps → (is_macro_string form s ≡ true) × ((pieces form s).list ≡ ps)
unfolding is_macro_string
complete form s ps d =
    let r = row_complete (produces_row form s ps d) in
    let l : (pieces form s).list ≡ ps = ap (λ (x : Pieces). x.list) r in
    (and_both (pieces form s).whole (ends_right form s) (ap (λ (x : Pieces). x.whole) r) (produces_ends form s ps d l), l)

-- a text has one list of pieces
pub one_reading : (form : Form) (s : List ℕ) (ps qs : List Piece) → Produces form s ps → Produces form s qs → ps ≡ qs
one_reading form s ps qs d e = sym (complete form s ps d).1 ∙ (complete form s qs e).1

-- accepted exactly if produced
pub accepted_iff : (form : Form) (s : List ℕ) → (is_macro_string form s ≡ true) ↔ ((ps : List Piece) × Produces form s ps)
accepted_iff form s = ((λ h. ((pieces form s).list, sound form s h)), (λ x. (complete form s x.0 x.1).0))
