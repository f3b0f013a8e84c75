-- One rule for each way out of `answer_input`: what is written is what is printed. From what `add_lifetimes` promises and the laws on writing of
-- `text`.
use Rattle.std.proofs.Common.{Result, Ok, Err}
use Prim.Native.Nat.{ℕ, ◌≤◌, ◌<◌}
use mathlib.Core.Path.{◌≡◌, refl, sym, ◌∙◌}
use mathlib.Core.Logic.{⊎_elim}
use mathlib.Core.List.{List}
use native.Mathlib.Omega.{arith}
use lib.ListN.{length}
use Rattle.text.specs.Writing.{Wrote, Writes}
use Rattle.text.specs.declared.writing.Writer.{Writer}
use Rattle.text.proofs.Laws.Writing.{over_fits, wrote_over, wrote_length}
use Rattle.answer_table.specs.Numbers.{Place, nowhere, byte}
use Rattle.answer_table.specs.Answers.{most_bytes}
use Rattle.record_listing.specs.Lines.{refusal_line}
use Rattle.record_listing.proofs.Laws.Room.{refusal_length}
use Rattle.old_layout.specs.Rewriting.{Outcome, written, refused, Rewrites}
use Rattle.old_layout.specs.Numbers.{outcome_of}
use Rattle.answer_table.specs.declared.TableError.{TableError}
use Rattle.answer_table.specs.declared.TableError.TheVariants.{TooLong, Malformed, Repeated}
use Rattle.rewrite_input.specs.Printing.{shown, error_line, Prints, no_table, too_long, rewrites, Printed}

module _ (input out : List ℕ) (h : most_bytes ≤ length out) where
  -- a table that is written
  table_printed : {q : Outcome} {o : List ℕ} {n : ℕ} → Rewrites input out q o → q ≡ written n → Printed input out o n
  table_printed (Rewrites.no_table t) e = let z : ◌≡◌ {A = ℕ} 0 1 = cc in absurd (omega arith)
  table_printed (Rewrites.no_room t r k) e = let z : ◌≡◌ {A = ℕ} 0 1 = cc in absurd (omega arith)
  table_printed {n = n} (Rewrites.fits {new = new} t r k l) e =
      let m : n ≡ length new = cc in
      record { text = new; prints = rewrites t r k; size = m; buffer = sym (over_fits new out l) }

  -- and one that is refused
  refusal_printed : {q : Outcome} {o : List ℕ} (k : ℕ) (p : Place) → Rewrites input out q o → q ≡ refused k p
      → (o ≡ out) × Prints input (refusal_line k (shown p))
  refusal_printed k p (Rewrites.no_table {n = n} {p = p'} t) e =
      let a : n ≡ k = cc in
      let b : p' ≡ p = cc in
      (refl, rw (← a, ← b) (no_table t))
  refusal_printed k p (Rewrites.no_room {new = new} t r l) e =
      let a : 24 ≡ k = cc in
      let b : nowhere ≡ p = cc in
      let m : most_bytes < length new = ⊎_elim (λ (u : most_bytes < length new). u) (λ (u : length out < length new). omega arith) l in
      (refl, rw (← a, ← b) (too_long t r m))
  refusal_printed k p (Rewrites.fits t r l m) e = let z : ◌≡◌ {A = ℕ} 0 1 = cc in absurd (omega arith)

  module _ (x : Result ℕ TableError) (o : List ℕ) (a : Rewrites input out (outcome_of x) o) where
    pub written_printed : (n : ℕ) → x ≡ Ok n → Printed input out o n
    written_printed n e = table_printed (rw e at a) refl

    -- the line of a refusal
    pub line_printed : (e : TableError) → x ≡ Err e → (before after : Writer) → before.out.now ≡ o → before.at ≡ 0 → Writes (error_line e) before after
        → (last : List ℕ) → last ≡ after.out.now → Printed input out last after.at
    line_printed e q before after b z w last t = by e q w
      where
        line : (k : ℕ) (p : Place) → outcome_of x ≡ refused k p → Writes (refusal_line k (shown p)) before after → Printed input out last after.at
        line k p u w =
            let r = refusal_printed k p a u in
            let s = refusal_line k (shown p) in
            let v : Wrote s out 0 after.out.now after.at = rw (b, z, r.0) at w.wrote in
            record {
              text = s;
              prints = r.1;
              size = wrote_length s out after.out.now after.at v (omega (arith, refusal_length k (shown p)));
              buffer = t ∙ wrote_over s out after.out.now after.at v;
            }

        by : (e : TableError) → x ≡ Err e → Writes (error_line e) before after → Printed input out last after.at
        by TooLong q w = line 24 nowhere (rw q) w
        by (Malformed p) q w = line 25 (byte p) (rw q) w
        by (Repeated p) q w = line 26 (byte p) (rw q) w
