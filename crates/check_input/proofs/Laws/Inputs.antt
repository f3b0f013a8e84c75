-- One rule for each way out of the functions that make both calls and write what they give, and of those that read an input's lines. From what the calls
-- promise, `together` of `evaluation`, and the definitions of Input and Lines.
use Rattle.std.proofs.Common.{None, Option, Some, Ok, Err, Result as Either}
use Prim.Native.Nat.{ℕ}
use mathlib.Core.Path.{◌≡◌, refl, sym, subst, ◌∙◌}
use mathlib.Core.List.{List, ◌++◌}
use mathlib.Core.Bool.{true}
use lib.ListN.{take, replicate}
use Rattle.text.specs.Bytes.{part}
use Rattle.text.specs.Decimal.{read_decimal}
use Rattle.text.specs.Texts.{bytes}
use Rattle.text.specs.Writing.{Wrote, Writes}
use Rattle.text.specs.declared.writing.Writer.{Writer}
use Rattle.text.proofs.Laws.Spans.{front_part}
use Rattle.address.specs.declared.Address.{Address}
use Rattle.address_text.specs.Digits.{in_decimal}
use Rattle.networks.specs.Reader6.{read_address}
use Rattle.records.specs.Readings.{absent, present}
use Rattle.rules.specs.declared.Counts.{Counts}
use Rattle.rules.specs.declared.Wanted.{Wanted}
use Rattle.evaluation.specs.declared.Answer.{Answer}
use Rattle.evaluation.specs.declared.Refusal.{Refusal}
use Rattle.evaluation.specs.declared.explaining.Explanation.{Explanation}
use Rattle.evaluation.specs.Evaluating.{has_room, evaluated}
use Rattle.evaluation.specs.First as first
use Rattle.evaluation.specs.Second as second
use Rattle.evaluation.specs.Together.{Given, given, one_gave, refused_by, after_fail, BothGive}
use Rattle.evaluation.proofs.Laws.Together.{together}
use Rattle.check_input.specs.Input.{on_client_and_time, checked_lines}
use Rattle.check_input.specs.Lines.{line, report_text, given_lines, lines_of, WritesAfterFail}
use Rattle.check_input.proofs.Laws.Lines.{number_given, named_given, fail_given}

-- `answer_fail`
module _ (a : second.Lent) (r : Either Explanation Refusal) (name text : List ℕ) (x : second.Explains a (second.handed r name text)) (c : Counts) (life : ℕ) (out o : Writer) where
  writes : (y : Either Explanation Refusal) → r ≡ y → Writes (given_lines (after_fail c life (second.handed r name text) y)) out o → WritesAfterFail a c life out o
  writes y e w = record {
    second = second.handed r name text;
    explains = x;
    writes = subst (λ (z : Either Explanation Refusal). Writes (given_lines (after_fail c life (second.handed r name text) z)) out o) (sym e) w;
  }

  pub fail_text : (z : Explanation) → r ≡ Ok z → (m : ℕ) → z ≡ Explanation.Text m → (s : List ℕ) → s ≡ part text 0 m → (v : Writer)
      → Writes (report_text 3 (bytes ".") c.lookups c.voids life) out v → Writes (line s) v o → WritesAfterFail a c life out o
  fail_text z p m e s i v u w =
      writes (Ok (Explanation.Text m)) (rw e at p) (subst (λ (y : List ℕ). Writes (given_lines (given 3 absent c life (present y))) out o) (i ∙ front_part text m)
      (record { wrote = fail_given c life out.out.now out.at o.out.now o.at s v.out.now v.at u.wrote w.wrote; same = w.same ∙ u.same }))

  pub fail_wanting : (z : Explanation) → r ≡ Ok z → (q : Wanted) → z ≡ Explanation.Wanting q → (s : List ℕ) → s ≡ part name 0 q.length
      → Writes (report_text 7 (in_decimal q.kind) c.lookups c.voids life ++ line s) out o → WritesAfterFail a c life out o
  fail_wanting z p q e s i w =
      writes (Ok (Explanation.Wanting q)) (rw e at p) (subst (λ (y : List ℕ). Writes (given_lines (given 7 (present q.kind) c life (present y))) out o) (i ∙ front_part name q.length)
      (record { wrote = named_given c life out.out.now out.at o.out.now o.at q.kind s w.wrote; same = w.same }))

  pub fail_refused : (f : Refusal) → r ≡ Err f → Writes (given_lines (refused_by f)) out o → WritesAfterFail a c life out o
  fail_refused f e w = writes (Err f) e w

-- `answer_calls`
enough : has_room (replicate 253 0) (replicate 500 0) ≡ true
unfolding has_room
enough = refl

module _ (client : Address) (domain sender helo receiver : List ℕ) (seconds : ℕ) (table : List ℕ) (r : Either Answer Refusal) (name : List ℕ)
    (x : first.Evaluates (first.lent client domain sender helo receiver seconds table (replicate 253 0)) (first.handed r name)) (out : List ℕ) (at : ℕ) (o : List ℕ) (n : ℕ) where
  gives : (g : Given) → BothGive (first.lent client domain sender helo receiver seconds table (replicate 253 0)) (first.handed r name) (replicate 253 0) (replicate 500 0) g
      → Wrote (given_lines g) out at o n → Wrote (given_lines (one_gave (evaluated client domain sender helo receiver seconds table (replicate 253 0) (replicate 500 0)))) out at o n
  gives g b w = subst (λ (y : Given). Wrote (given_lines y) out at o n) (together _ (first.handed r name) x (replicate 253 0) (replicate 500 0) enough g b) w

  pub calls_decided : (z : Answer) → r ≡ Ok z → (value : ℕ) (c : Counts) (life : ℕ) → z ≡ Answer.Decided value c life → Wrote (report_text value (bytes ".") c.lookups c.voids life) out at o n
      → Wrote (given_lines (one_gave (evaluated client domain sender helo receiver seconds table (replicate 253 0) (replicate 500 0)))) out at o n
  calls_decided z p value c life e w = gives (given value absent c life absent) (BothGive.decided (rw e at p)) (number_given c life out at o n value w)

  pub calls_wanting : (z : Answer) → r ≡ Ok z → (q : Wanted) (c : Counts) (life : ℕ) → z ≡ Answer.Wanting q c life → (s : List ℕ) → s ≡ part name 0 q.length
      → Wrote (report_text 7 (in_decimal q.kind) c.lookups c.voids life ++ line s) out at o n
      → Wrote (given_lines (one_gave (evaluated client domain sender helo receiver seconds table (replicate 253 0) (replicate 500 0)))) out at o n
  calls_wanting z p q c life e s i w =
      gives (given 7 (present q.kind) c life (present (take q.length name))) (BothGive.wanting (rw e at p))
      (subst (λ (y : List ℕ). Wrote (given_lines (given 7 (present q.kind) c life (present y))) out at o n) (i ∙ front_part name q.length) (named_given c life out at o n q.kind s w))

  pub calls_refused : (f : Refusal) → r ≡ Err f → Wrote (given_lines (refused_by f)) out at o n
      → Wrote (given_lines (one_gave (evaluated client domain sender helo receiver seconds table (replicate 253 0) (replicate 500 0)))) out at o n
  calls_refused f e w = gives (refused_by f) (BothGive.refused e) w

-- likewise, after a fail
module _ (client : Address) (domain sender helo receiver : List ℕ) (seconds : ℕ) (table : List ℕ) (r : Either Answer Refusal) (name : List ℕ)
    (x : first.Evaluates (first.lent client domain sender helo receiver seconds table (replicate 253 0)) (first.handed r name)) (out o : Writer) where
  pub calls_fail : (z : Answer) → r ≡ Ok z → (c : Counts) (life m place size : ℕ) → z ≡ Answer.Fail c life m place size → (d : List ℕ) → d ≡ part name 0 m
      → WritesAfterFail (second.lent client d sender helo receiver seconds table place size (replicate 253 0) (replicate 500 0)) c life out o
      → Writes (given_lines (one_gave (evaluated client domain sender helo receiver seconds table (replicate 253 0) (replicate 500 0)))) out o
  calls_fail z p c life m place size e d i w = record {
    wrote = gives client domain sender helo receiver seconds table r name x out.out.now out.at o.out.now o.at (after_fail c life w.second w.second.answer)
        (BothGive.failed (rw e at p) (subst (λ (y : List ℕ). second.Explains (second.lent client y sender helo receiver seconds table place size (replicate 253 0) (replicate 500 0)) w.second) (i ∙ front_part name m) w.explains))
        w.writes.wrote;
    same = w.writes.same;
  }

-- `answer_lines`
module _ (client domain sender helo receiver seconds table : List ℕ) (network : Option Address) (p : network ≡ read_address client) (out : List ℕ) (at : ℕ) (o : List ℕ) (n : ℕ) where
  pub no_client : network ≡ None → Wrote (line (bytes "input")) out at o n
      → Wrote (lines_of (checked_lines client domain sender helo receiver seconds table (replicate 253 0) (replicate 500 0))) out at o n
  unfolding checked_lines on_client_and_time lines_of
  no_client q w = rw (sym p ∙ q) w

  module _ (address : Address) (q : network ≡ Some address) (number : Option ℕ) (e : number ≡ read_decimal 18446744073709551615 seconds) where
    pub no_time : number ≡ None → Wrote (line (bytes "input")) out at o n
        → Wrote (lines_of (checked_lines client domain sender helo receiver seconds table (replicate 253 0) (replicate 500 0))) out at o n
    unfolding checked_lines on_client_and_time lines_of
    no_time f w = rw (sym p ∙ q, sym e ∙ f) w

    pub both_read : (t : ℕ) → number ≡ Some t
        → Wrote (given_lines (one_gave (evaluated address domain sender helo receiver t table (replicate 253 0) (replicate 500 0)))) out at o n
        → Wrote (lines_of (checked_lines client domain sender helo receiver seconds table (replicate 253 0) (replicate 500 0))) out at o n
    unfolding checked_lines on_client_and_time lines_of
    both_read t f w = rw (sym p ∙ q, sym e ∙ f) w
