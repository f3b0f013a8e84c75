-- What is printed of a record is one text, and for a record with a reading it is the listing of that reading; an input that is longer than a record
-- may be is refused. From the claim of `records`.
use Prim.Native.Nat.{ℕ, ◌-◌, ◌≤◌, ◌<◌}
use mathlib.Core.Path.{◌≡◌, sym, ap, ◌∙◌}
use mathlib.Core.List.{List}
use native.Mathlib.Omega.{arith}
use lib.ListN.{length, length-take}
use lib.Dec.{eqb}
use Rattle.text.specs.Bytes.{at}
use Rattle.text.proofs.Laws.Tests.{cond-elim}
use Rattle.records.specs.Readings.{Placed}
use Rattle.records.specs.Grammar.{Record}
use Rattle.records.specs.Numbers.{RecordReport, accepted, refused, record_report}
use Rattle.records.specs.Answers.{RecordAnswers}
use Rattle.records.proofs.Laws.Records.{record_accepted, one_reading, record_answers_is}
use Rattle.record_listing.specs.Lines.{listing_of, refusal_line, Prints, refuses, lists, without_newline}

-- a record that is refused has no reading
module _ (s : List ℕ) (number place : ℕ) (a : RecordAnswers s (refused number place)) where
  no_reading : (ts : List Placed) → length s ≤ 4096 → Record s ts → ⊥
  no_reading ts h d =
      let e : refused number place ≡ accepted 6 = record_answers_is s (refused number place) a ∙ ap record_report (record_accepted d h) in
      let z : ◌≡◌ {A = ℕ} 0 1 = cc in omega arith

pub prints_one : {s xs ys : List ℕ} → Prints s xs → Prints s ys → xs ≡ ys
prints_one {s} (refuses {number = n} {place = p} a) (refuses {number = m} {place = q} b) =
    let e : RecordReport.refused n p ≡ RecordReport.refused m q = record_answers_is s (refused n p) a ∙ sym (record_answers_is s (refused m q) b) in
    let f : n ≡ m = cc in
    let g : p ≡ q = cc in
    rw (f, g)
prints_one {s} (refuses {number = n} {place = p} a) (lists {ts = ts} h d) = absurd (no_reading s n p a ts h d)
prints_one {s} (lists {ts = ts} h d) (refuses {number = n} {place = p} a) = absurd (no_reading s n p a ts h d)
prints_one (lists h d) (lists k e) = ap listing_of (one_reading h d e)

-- a record with a reading is printed as the listing of that reading
pub printed_reading : {s xs : List ℕ} {ts : List Placed} → length s ≤ 4096 → Record s ts → Prints s xs → xs ≡ listing_of ts
printed_reading h d p = prints_one p (lists h d)

-- an input of more than 4,097 bytes is refused, so that no more than 4,098 of it need be read
pub newline_length : (s : List ℕ) → length s - 1 ≤ length (without_newline s)
unfolding without_newline
newline_length s = cond-elim (λ (x : List ℕ). length s - 1 ≤ length x) (eqb (at s (length s - 1)) 10) (λ _. rw length-take (omega arith)) (λ _. omega arith)

pub long_input : (s : List ℕ) → 4097 < length s → Prints (without_newline s) (refusal_line 30 0)
long_input s h = refuses (RecordAnswers.too_long (omega (arith, newline_length s)))
