-- A text of macro-literals is its own expansion and has no p macro. From the laws of macro strings in macros.
use Rattle.std.proofs.Common.{Option, Ok, Bor}
use Prim.Native.Nat.{ℕ, ◌≤◌}
use mathlib.Core.Path.{◌≡◌, refl, sym, ap, ◌∙◌}
use mathlib.Core.List.{List, [], ◌∷◌, map}
use lib.ListN.{length}
use mathlib.Core.Bool.{Bool, true, false}
use Rattle.text.specs.Bytes.{is_macro_literal, is_space}
use Rattle.text.specs.Lists.{all}
use Rattle.text.specs.Runs.{is_in}
use Rattle.text.specs.declared.bytes.Class.TheVariants.{MacroLiteral}
use Rattle.text.proofs.Laws.Classes.{class_tests}
use Rattle.text.proofs.Laws.Parts.{all_first, all_rest}
use Rattle.text.proofs.Laws.Tests.{or_left}
use Rattle.macros.specs.declared.Form.{Form}
use Rattle.macros.specs.declared.Form.TheVariants.{DomainSpec, ModifierValue, Explanation}
use Rattle.macros.specs.Grammar.{literal}
use Rattle.macros.specs.Reader.{is_literal, Pieces, pieces, is_p, any_p, uses_p}
use Rattle.macros.specs.Expansion.{Letters, piece_text, text_of}
use Rattle.macros.specs.Question.{question_name}
use Rattle.macros.proofs.Laws.Strings.{Row, none, literals, row_complete}
use Rattle.domain.specs.Normal.{name_answer, name_buffer}
use Rattle.rules.specs.declared.Progress.{Progress}
use Rattle.rules.specs.Mechanisms.{Mail, expansion, target}
use Rattle.rules.specs.Outcomes.{Targets}
use Rattle.target_name.proofs.Laws.Expansions.{p_unused}
use Rattle.target_name.proofs.Laws.Naming.{question_named, target_given}

-- a macro-literal stands for itself in every form
literal_byte : (form : Form) (b : ℕ) → is_macro_literal b ≡ true → is_literal form b ≡ true
unfolding is_literal
literal_byte DomainSpec b h = h
literal_byte ModifierValue b h = h
literal_byte Explanation b h = or_left (is_macro_literal b) (is_space b) h

plain_row : (form : Form) (s : List ℕ) → all is_macro_literal s ≡ true → Row form s (map literal s)
plain_row form [] h = none
plain_row form (b ∷ s) h = literals (literal_byte form b (all_first is_macro_literal b s h)) (plain_row form s (all_rest is_macro_literal b s h))

literal_text : (x : Letters) (s : List ℕ) → text_of x (map literal s) ≡ s
unfolding text_of piece_text
literal_text x [] = refl
literal_text x (b ∷ s) = ap (λ (r : List ℕ). b ∷ r) (literal_text x s)

literal_asks : (s : List ℕ) → any_p (map literal s) ≡ false
unfolding any_p is_p
literal_asks [] = refl
literal_asks (b ∷ s) = literal_asks s

-- its pieces, what they expand to, and whether they use p
module _ (form : Form) (s : List ℕ) (h : all is_macro_literal s ≡ true) where
  plain_pieces : (pieces form s).list ≡ map literal s
  plain_pieces = ap (λ (p : Pieces). p.list) (row_complete (plain_row form s h))

  plain_text : (x : Letters) → text_of x (pieces form s).list ≡ s
  plain_text x = rw plain_pieces (literal_text x s)

  plain_asks : uses_p form s ≡ false
  unfolding uses_p
  plain_asks = rw plain_pieces (literal_asks s)

-- `make_target` without macros
pub target_plain : (mail : Mail) (t d spec : List ℕ) (p : Progress) (u : Bool) → u ≡ all (is_in MacroLiteral) spec → u ≡ true → (r : Option ℕ) (to to' b : List ℕ) → 253 ≤ length to
    → r ≡ name_answer (question_name spec) → to' ≡ name_buffer (question_name spec) to → Targets t (target mail d spec p.counts) p p (Ok r) to' b b
unfolding expansion
target_plain mail t d spec p u e h r to to' b room k y =
    let a : all is_macro_literal spec ≡ true = sym (class_tests MacroLiteral spec) ∙ sym e ∙ h in
    let v : Bor (List ℕ) = record { ref_ptr = (0, 0); now = [] } in
    target_given mail t d spec p p b b v (p_unused mail.client t d DomainSpec spec false (sym (plain_asks DomainSpec spec a)) p refl v refl b) r to'
    (rw (plain_text DomainSpec spec a _) (question_named spec to to' r room k y))
