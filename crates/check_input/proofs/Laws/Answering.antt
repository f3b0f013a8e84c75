-- The lines that are written are those of what the input comes to, and they fit 640 bytes: a wanted name has at most 253 bytes and a text at most
-- 500. From the definitions of Lines and the facts of `evaluation`.
use Rattle.std.proofs.Common.{None, Option, Some}
use Prim.Native.Nat.{ℕ, ◌+◌, ◌≤◌}
use mathlib.Core.Path.{◌≡◌, refl, ◌∙◌}
use mathlib.Core.List.{List}
use mathlib.Core.Bool.{true, ◌&&◌}
use native.Mathlib.Omega.{arith}
use lib.ListN.{length, replicate, length-append}
use lib.Dec.{eqb}
use Rattle.text.specs.Bytes.{within, is_not_upper}
use Rattle.text.specs.Decimal.{read_decimal}
use Rattle.text.specs.Lists.{all}
use Rattle.text.specs.Writing.{Wrote}
use Rattle.text.proofs.Laws.Classes.{within_range}
use Rattle.text.proofs.Laws.Tests.{and_left, cond-elim}
use Rattle.text.proofs.Laws.Writing.{wrote_over, wrote_length}
use Rattle.address_text.proofs.Laws.Lengths.{length_decimal}
use Rattle.address.specs.declared.Address.{Address}
use Rattle.domain.specs.Names.{labels, is_label, is_name, is_table_name}
use Rattle.networks.specs.Reader6.{read_address}
use Rattle.records.specs.Readings.{Optional, absent, present}
use Rattle.rules.specs.Tree.{settled, wanting}
use Rattle.rules.proofs.Laws.Alike.{Holds}
use Rattle.evaluation.specs.Numbers.{Report, Outcome, refused, refused_at, settles, report_of, bytes_of}
use Rattle.evaluation.specs.Evaluating.{evaluated}
use Rattle.evaluation.proofs.Laws.Facts.{facts, wanted_name}
use Rattle.text.specs.Fields.{after_fields, field}
use Rattle.check_input.specs.Input.{InputOutcome, unreadable, evaluates, on_client_and_time, checked_lines, checked_input}
use Rattle.check_input.specs.Lines.{line, or_dot, spaced, counts_text, report_text, report_line, second_line, given_lines, lines_of, answered, Stands}

-- name and text fit their buffers
unfoldable Fits : Outcome → Type 0
Fits (refused number) = Unit {0}
Fits (refused_at number place) = Unit {0}
Fits (settles (settled v l) life) = length v.text ≤ 500
Fits (settles (wanting kind n c l) life) = length n ≤ 253

name_length : (n : List ℕ) → is_table_name n ≡ true → length n ≤ 253
unfolding is_table_name is_name
name_length n h =
    (within_range 1 253 (length n)
    (and_left (within 1 253 (length n)) (all is_label (labels n)) (and_left (within 1 253 (length n) && all is_label (labels n)) (all is_not_upper n) h))).1

module _ (client : Address) (domain sender helo receiver : List ℕ) (seconds : ℕ) (table name text : List ℕ) where
  outcome_fits : (o : Outcome) → evaluated client domain sender helo receiver seconds table name text ≡ o → Fits o
  unfolding Fits Holds
  outcome_fits (refused number) e = tt
  outcome_fits (refused_at number place) e = tt
  outcome_fits (settles (settled v l) life) e = (facts client domain sender helo receiver seconds table name text (settled v l) life e).short
  outcome_fits (settles (wanting kind n c l) life) e = name_length n (wanted_name client domain sender helo receiver seconds table name text kind n c l life e)

  evaluated_fits : Fits (evaluated client domain sender helo receiver seconds table name text)
  evaluated_fits = outcome_fits (evaluated client domain sender helo receiver seconds table name text) refl

unfoldable InputFits : InputOutcome → Type 0
InputFits unreadable = Unit {0}
InputFits (evaluates o) = Fits o

lines_fits : (x : Option Address) (y : Option ℕ) (f : Address → ℕ → Outcome) → ((a : Address) (t : ℕ) → Fits (f a t)) → InputFits (on_client_and_time x y f)
unfolding on_client_and_time InputFits
lines_fits None y f h = tt
lines_fits (Some a) None f h = tt
lines_fits (Some a) (Some t) f h = h a t

input_fits : (input name text : List ℕ) → InputFits (checked_input input name text)
unfolding checked_input checked_lines
input_fits input name text =
    lines_fits (read_address (field 10 0 input)) (read_decimal 18446744073709551615 (field 10 5 input))
    (λ a t. evaluated a (field 10 1 input) (field 10 2 input) (field 10 3 input) (field 10 4 input) t (after_fields 10 6 input) name text)
    (λ a t. evaluated_fits a (field 10 1 input) (field 10 2 input) (field 10 3 input) (field 10 4 input) t (after_fields 10 6 input) name text)

-- how long the lines are
line_length : (s : List ℕ) → length (line s) ≤ length s + 1
unfolding line
line_length s = simp length-append (omega arith)

place_length : (p : Optional ℕ) → length (or_dot p) ≤ 20
unfolding or_dot
place_length absent = omega arith
place_length (present n) = length_decimal n

report_length : (r : Report) → length (report_line r) ≤ 105
unfolding report_line report_text counts_text spaced
report_length r =
    simp length-append (omega (arith, length_decimal r.number, place_length r.kind_or_place, length_decimal r.lookups, length_decimal r.voids, length_decimal r.lifetime))

second_length_lem : (o : Outcome) → Fits o → length (second_line (bytes_of o)) ≤ 501
unfolding Fits second_line bytes_of
second_length_lem (refused number) f = omega arith
second_length_lem (refused_at number place) f = omega arith
second_length_lem (settles (settled v l) life) f =
    cond-elim (λ (s : Optional (List ℕ)). length (second_line s) ≤ 501) (eqb v.value 3) (λ _. omega (arith, line_length v.text)) (λ _. omega arith)
second_length_lem (settles (wanting kind n c l) life) f = omega (arith, line_length n)

lines_length : (o : InputOutcome) → InputFits o → length (lines_of o) ≤ 640
unfolding InputFits lines_of given_lines line
lines_length unreadable f = omega arith
lines_length (evaluates o) f = rw length-append (omega (arith, report_length (report_of o), second_length_lem o f))

-- what the program prints has at most 640 bytes
pub answer_length : (input : List ℕ) → length (lines_of (answered input)) ≤ 640
unfolding answered
answer_length input = lines_length (checked_input input (replicate 253 0) (replicate 500 0)) (input_fits input (replicate 253 0) (replicate 500 0))

-- `answer_input`: the lines and the table of an input
pub input_answered : (input client domain sender helo receiver seconds table : List ℕ)
    → client ≡ field 10 0 input → domain ≡ field 10 1 input → sender ≡ field 10 2 input → helo ≡ field 10 3 input → receiver ≡ field 10 4 input
    → seconds ≡ field 10 5 input → table ≡ after_fields 10 6 input → (out z out' f : List ℕ) (at n : ℕ) → 640 ≤ length out → z ≡ out → at ≡ 0
    → Wrote (lines_of (checked_lines client domain sender helo receiver seconds table (replicate 253 0) (replicate 500 0))) z at out' n → f ≡ out'
    → Stands (lines_of (answered input)) out f n
unfolding answered checked_input
input_answered input client domain sender helo receiver seconds table c d s h v t a out z out' f at n l e i w g =
    let k = answer_length input in
    let u : Wrote (lines_of (checked_lines client domain sender helo receiver seconds table (replicate 253 0) (replicate 500 0))) out 0 out' n = rw (e, i) at w in
    let y : Wrote (lines_of (answered input)) out 0 out' n = rw (← c, ← d, ← s, ← h, ← v, ← t, ← a) u in
    record { size = wrote_length (lines_of (answered input)) out out' n y (omega arith); buffer = g ∙ wrote_over (lines_of (answered input)) out out' n y }
