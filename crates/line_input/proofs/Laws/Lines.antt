-- The lines, written piece after piece: one rule for each of the functions that write them. From the definitions of Lines and Reader and the laws on
-- writing of `text`.
use Prim.Native.Nat.{ℕ}
use mathlib.Core.Path.{◌≡◌}
use mathlib.Core.List.{List, [], ◌∷◌, ◌++◌}
use Rattle.text.specs.Texts.{bytes}
use Rattle.text.specs.Writing.{Wrote}
use Rattle.text.proofs.Laws.Writing.{wrote_then}
use Rattle.address_text.specs.Digits.{in_decimal}
use Rattle.received.specs.Quoting.{unescaped}
use Rattle.received.specs.RoundTrip.{bytes_at}
use Rattle.received.specs.Texts.{word_of}
use Rattle.text.specs.declared.spans.Span.{Span as Part}
use Rattle.received.specs.declared.Parts.{Parts}
use Rattle.line_input.specs.Lines.{line, refusal_line}
use Rattle.line_input.specs.Reader.{part_lines}

module _ (out : List ℕ) (at : ℕ) (o₁ : List ℕ) (n₁ : ℕ) (o₂ : List ℕ) (n₂ : ℕ) where
  -- `put_line`
  pub line_written : (s : List ℕ) → Wrote s out at o₁ n₁ → Wrote (10 ∷ []) o₁ n₁ o₂ n₂ → Wrote (line s) out at o₂ n₂
  unfolding line
  line_written s v w = wrote_then out at s (10 ∷ []) o₁ o₂ n₁ n₂ v w

  -- `put_value`
  pub value_written : (s : List ℕ) (p : Part) (t : List ℕ) → t ≡ bytes_at s p → Wrote (unescaped t) out at o₁ n₁ → Wrote (10 ∷ []) o₁ n₁ o₂ n₂
      → Wrote (line (unescaped (bytes_at s p))) out at o₂ n₂
  value_written s p t e v w = rw (← e) (line_written (unescaped t) v w)

  -- `put_refusal`
  pub refusal_written : (number : ℕ) (o₃ : List ℕ) (n₃ : ℕ) → Wrote (bytes "refused ") out at o₁ n₁ → Wrote (in_decimal number) o₁ n₁ o₂ n₂ → Wrote (10 ∷ []) o₂ n₂ o₃ n₃
      → Wrote (refusal_line number) out at o₃ n₃
  unfolding refusal_line
  refusal_written number o₃ n₃ u v w =
      wrote_then out at (bytes "refused ") (in_decimal number ++ (10 ∷ [])) o₁ o₃ n₁ n₃ u (wrote_then o₁ n₁ (in_decimal number) (10 ∷ []) o₂ o₃ n₂ n₃ v w)

-- `put_parts`
pub parts_written : (s : List ℕ) (f : Parts) {out o₂ o₃ o₄ o₅ o₆ o₇ : List ℕ} {at n₂ n₃ n₄ n₅ n₆ n₇ : ℕ} → Wrote (line (word_of f.result)) out at o₂ n₂
    → Wrote (line (unescaped (bytes_at s f.client))) o₂ n₂ o₃ n₃ → Wrote (line (unescaped (bytes_at s f.sender))) o₃ n₃ o₄ n₄
    → Wrote (line (unescaped (bytes_at s f.helo))) o₄ n₄ o₅ n₅ → Wrote (line (unescaped (bytes_at s f.receiver))) o₅ n₅ o₆ n₆
    → Wrote (line (unescaped (bytes_at s f.identity))) o₆ n₆ o₇ n₇ → Wrote (part_lines s f) out at o₇ n₇
unfolding part_lines
parts_written s f {out} {o₂} {o₃} {o₄} {o₅} {o₆} {o₇} {at} {n₂} {n₃} {n₄} {n₅} {n₆} {n₇} u w x y z k =
    let value : Part → List ℕ = λ p. line (unescaped (bytes_at s p)) in
    wrote_then out at (line (word_of f.result)) _ o₂ o₇ n₂ n₇ u
    (wrote_then o₂ n₂ (value f.client) _ o₃ o₇ n₃ n₇ w
    (wrote_then o₃ n₃ (value f.sender) _ o₄ o₇ n₄ n₇ x
    (wrote_then o₄ n₄ (value f.helo) _ o₅ o₇ n₅ n₇ y
    (wrote_then o₅ n₅ (value f.receiver) (value f.identity) o₆ o₇ n₆ n₇ z k))))
