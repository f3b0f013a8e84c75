-- The lines of an answer, written piece after piece: one rule for each way out of the functions of src/lines.rt. From the definitions of Lines and
-- the laws on writing of `text`.
use Rattle.std.proofs.Common.{None, Option, Some}
use Prim.Native.Nat.{ℕ}
use mathlib.Core.Path.{◌≡◌, sym, subst, ◌∙◌}
use mathlib.Core.List.{List, [], ◌∷◌, ◌++◌, append-nil}
use Rattle.text.specs.Texts.{bytes}
use Rattle.text.specs.Writing.{Wrote}
use Rattle.text.proofs.Laws.Writing.{wrote_then}
use Rattle.address_text.specs.Digits.{in_decimal}
use Rattle.records.specs.Readings.{absent, present}
use Rattle.rules.specs.declared.Counts.{Counts}
use Rattle.rules.specs.Evaluation.{no_counts}
use Rattle.evaluation.specs.declared.Refusal.{Refusal}
use Rattle.evaluation.specs.Evaluating.{number_of, place_of}
use Rattle.evaluation.specs.Together.{given, optional, refused_by}
use Rattle.check_input.specs.Lines.{line, or_dot, spaced, counts_text, report_text, report_line, second_line, given_lines}

module _ (out : List ℕ) (at : ℕ) (o₁ : List ℕ) (n₁ : ℕ) where
  module _ (o₂ : List ℕ) (n₂ : ℕ) where
    pub line_written : (s : List ℕ) → Wrote s out at o₁ n₁ → Wrote (10 ∷ []) o₁ n₁ o₂ n₂ → Wrote (line s) out at o₂ n₂
    unfolding line
    line_written s v w = wrote_then out at s (10 ∷ []) o₁ o₂ n₁ n₂ v w

    pub spaced_written : (n : ℕ) → Wrote (32 ∷ []) out at o₁ n₁ → Wrote (in_decimal n) o₁ n₁ o₂ n₂ → Wrote (spaced n) out at o₂ n₂
    unfolding spaced
    spaced_written n v w = wrote_then out at (32 ∷ []) (in_decimal n) o₁ o₂ n₁ n₂ v w

    module _ (o₃ : List ℕ) (n₃ : ℕ) (o₄ : List ℕ) (n₄ : ℕ) where
      pub counts_written : (lookups voids life : ℕ) → Wrote (spaced lookups) out at o₁ n₁ → Wrote (spaced voids) o₁ n₁ o₂ n₂
          → Wrote (spaced life) o₂ n₂ o₃ n₃ → Wrote (10 ∷ []) o₃ n₃ o₄ n₄ → Wrote (counts_text lookups voids life) out at o₄ n₄
      unfolding counts_text
      counts_written lookups voids life u v w x =
          let a = spaced lookups ++ spaced voids in
          wrote_then out at (a ++ spaced life) (10 ∷ []) o₃ o₄ n₃ n₄
          (wrote_then out at a (spaced life) o₂ o₃ n₂ n₃ (wrote_then out at (spaced lookups) (spaced voids) o₁ o₂ n₁ n₂ u v) w) x

      pub report_written : (number : ℕ) (place : List ℕ) (lookups voids life : ℕ) → Wrote (in_decimal number) out at o₁ n₁ → Wrote (32 ∷ []) o₁ n₁ o₂ n₂
          → Wrote place o₂ n₂ o₃ n₃ → Wrote (counts_text lookups voids life) o₃ n₃ o₄ n₄ → Wrote (report_text number place lookups voids life) out at o₄ n₄
      unfolding report_text
      report_written number place lookups voids life u v w x =
          let a = in_decimal number ++ bytes " " in
          wrote_then out at (a ++ place) (counts_text lookups voids life) o₃ o₄ n₃ n₄
          (wrote_then out at a place o₂ o₃ n₂ n₃ (wrote_then out at (in_decimal number) (32 ∷ []) o₁ o₂ n₁ n₂ u v) w) x

-- a number with its kind and a name after it
pub named_written : (kind lookups voids life : ℕ) (s out : List ℕ) (at : ℕ) (o₁ : List ℕ) (n₁ : ℕ) (o₂ : List ℕ) (n₂ : ℕ)
    → Wrote (report_text 7 (in_decimal kind) lookups voids life) out at o₁ n₁ → Wrote (line s) o₁ n₁ o₂ n₂
    → Wrote (report_text 7 (in_decimal kind) lookups voids life ++ line s) out at o₂ n₂
named_written kind lookups voids life s out at o₁ n₁ o₂ n₂ v w = wrote_then out at (report_text 7 (in_decimal kind) lookups voids life) (line s) o₁ o₂ n₁ n₂ v w

-- what both calls give, by its report and what comes with it
module _ (c : Counts) (life : ℕ) (out : List ℕ) (at : ℕ) (o : List ℕ) (r : ℕ) where
  pub number_given : (number : ℕ) → Wrote (report_text number (bytes ".") c.lookups c.voids life) out at o r → Wrote (given_lines (given number absent c life absent)) out at o r
  unfolding given_lines report_line or_dot second_line
  number_given number w = rw append-nil w

  pub placed_given : (number place : ℕ) → Wrote (report_text number (in_decimal place) c.lookups c.voids life) out at o r
      → Wrote (given_lines (given number (present place) c life absent)) out at o r
  unfolding given_lines report_line or_dot second_line
  placed_given number place w = rw append-nil w

  pub named_given : (kind : ℕ) (s : List ℕ) → Wrote (report_text 7 (in_decimal kind) c.lookups c.voids life ++ line s) out at o r
      → Wrote (given_lines (given 7 (present kind) c life (present s))) out at o r
  unfolding given_lines report_line or_dot second_line
  named_given kind s w = w

  pub fail_given : (s o₁ : List ℕ) (n₁ : ℕ) → Wrote (report_text 3 (bytes ".") c.lookups c.voids life) out at o₁ n₁ → Wrote (line s) o₁ n₁ o r
      → Wrote (given_lines (given 3 absent c life (present s))) out at o r
  unfolding given_lines report_line or_dot second_line
  fail_given s o₁ n₁ v w = wrote_then out at (report_text 3 (bytes ".") c.lookups c.voids life) (line s) o₁ o n₁ r v w

-- `put_refusal`
module _ (e : Refusal) (number : ℕ) (n : number ≡ number_of e) (p : Option ℕ) (h : p ≡ place_of e) (out : List ℕ) (at : ℕ) (o : List ℕ) (r : ℕ) where
  by_place : (x : Option ℕ) → p ≡ x → Wrote (given_lines (given (number_of e) (optional x) no_counts 0 absent)) out at o r → Wrote (given_lines (refused_by e)) out at o r
  by_place x q w = subst (λ (y : Option ℕ). Wrote (given_lines (given (number_of e) (optional y) no_counts 0 absent)) out at o r) (sym q ∙ h) w

  pub refusal_placed : (place : ℕ) → p ≡ Some place → Wrote (report_text number (in_decimal place) 0 0 0) out at o r → Wrote (given_lines (refused_by e)) out at o r
  refusal_placed place q w = by_place (Some place) q (placed_given no_counts 0 out at o r (number_of e) place (rw n at w))

  pub refusal_numbered : p ≡ None → Wrote (report_text number (bytes ".") 0 0 0) out at o r → Wrote (given_lines (refused_by e)) out at o r
  refusal_numbered q w = by_place None q (number_given no_counts 0 out at o r (number_of e) (rw n at w))
