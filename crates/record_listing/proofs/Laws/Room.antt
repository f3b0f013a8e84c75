-- What is printed of a record has at most 320,000 bytes: a term's line has at most 76 more than its name and argument, which stand in the term, and
-- each term has a byte of the record. From the definitions of Lines and the answers of `records`.
use Rattle.std.proofs.Common.{None, Ok, Err, Some}
use Prim.Native.Nat.{ℕ, ◌+◌, ◌-◌, ◌*◌, ◌≤◌, ◌<◌}
use mathlib.Core.Path.{◌≡◌, ap}
use mathlib.Core.List.{List}
use native.Mathlib.Omega.{arith}
use lib.ListN.{length, length-append, length-take, length-drop, length-map}
use Rattle.text.specs.Bytes.{part}
use Rattle.address_text.proofs.Laws.Lengths.{length_decimal}
use Rattle.address.specs.declared.Address.TheVariants.{IPv4, IPv6}
use Rattle.text.proofs.Laws.Spans.{part_length}
use Rattle.records.specs.Readings.{Optional, absent, present, Said, Placed, bytes_or}
use Rattle.records.specs.Numbers.{optional, said_of, term, term_report, TermAnswer}
use Rattle.records.specs.Reader.{read_term, Reads, stop, step}
use Rattle.records.specs.declared.Term.{Term}
use Rattle.records.proofs.Laws.Terms.{Found, found}
use Rattle.records.proofs.Laws.Records.{record_complete}
use Rattle.records.proofs.Laws.Checking.{optional_bytes}
use Rattle.record_listing.specs.Lines.{sign_text, length_text, argument_text, columns, said_line, line_of, lines_of, listing_of, refusal_line, Prints, refuses, lists, room}

-- each column
sign_length : (x : Optional ℕ) → length (sign_text x) ≤ 1
unfolding sign_text
sign_length absent = omega arith
sign_length (present b) = omega arith

number_length : (x : Optional ℕ) → length (length_text x) ≤ 20
unfolding length_text
number_length absent = omega arith
number_length (present n) = length_decimal n

argument_length : (x : Optional ℕ) (a : Optional (List ℕ)) → length (argument_text x a) ≤ 1 + length (bytes_or a)
unfolding argument_text
argument_length x absent = omega arith
argument_length x (present a) = omega arith

said_length : (x : Said) → length (said_line x) ≤ length x.name + length (bytes_or x.argument) + 47
unfolding said_line columns
said_length x =
    simp (length-append, length-map)
    (omega (arith, sign_length x.sign, argument_length x.sign x.argument, number_length x.four, number_length x.six))

line_length : (t : Placed) → length (line_of t) ≤ length t.said.name + length (bytes_or t.said.argument) + 68
unfolding line_of
line_length t = simp length-append (omega (arith, length_decimal t.place, said_length t.said))

-- name and argument stand in the term
optional_length : (w : List ℕ) (from to : ℕ) → length (bytes_or (optional w from to)) ≤ length w
optional_length w from to = rw (optional_bytes w from to) (part_length w from to)

parts_length : (w : List ℕ) (t : Term) → length (said_of w t).name + length (bytes_or (said_of w t).argument) ≤ 2 * length w + 8
unfolding said_of
parts_length w (Term.All sign) = omega arith
parts_length w (Term.Include sign from to) = omega (arith, part_length w from to)
parts_length w (Term.A sign from to four six) = omega (arith, optional_length w from to)
parts_length w (Term.Mx sign from to four six) = omega (arith, optional_length w from to)
parts_length w (Term.Ptr sign from to) = omega (arith, optional_length w from to)
parts_length w (Term.Network sign from to (IPv4 v) n) = omega (arith, part_length w from to)
parts_length w (Term.Network sign from to (IPv6 h l) n) = omega (arith, part_length w from to)
parts_length w (Term.Exists sign from to) = omega (arith, part_length w from to)
parts_length w (Term.Redirect from to) = omega (arith, part_length w from to)
parts_length w (Term.Explanation from to) = omega (arith, part_length w from to)
parts_length w (Term.Unknown name to) = omega (arith, part_length w 0 name, part_length w (name + 1) to)

-- a term lies further on and inside
record Further (s : List ℕ) (i : ℕ) (t : Placed) (next : ℕ) : Type 0 where
  from : i ≤ t.place
  some : t.place < next
  inside : next ≤ length s

further : {s : List ℕ} {i : ℕ} {t : Placed} {next : ℕ} → Found s i next t → Further s i t next
further {s} {i} f =
    let c = simp length-append at (ap length f.split) in
    record {
      from = omega (arith, f.place_is);
      some = omega (arith, f.place_is, f.next_is, f.run.some);
      inside = omega (arith, c, f.next_is, f.run.some, length-drop i s);
    }

step_length : (s : List ℕ) (i : ℕ) (t : Placed) (next : ℕ) → term_report s (read_term s i) ≡ term next t → Further s i t next
    → length (line_of t) ≤ 78 * (next - i)
step_length s i t next e f = by (read_term s i) e
  where
    by : (x : TermAnswer) → term_report s x ≡ term next t → length (line_of t) ≤ 78 * (next - i)
    by (Ok None) g = let z : ◌≡◌ {A = ℕ} 0 1 = cc in absurd (omega arith)
    by (Err x) g = let z : ◌≡◌ {A = ℕ} 0 1 = cc in absurd (omega arith)
    by (Ok (Some x)) g =
        let w = part s x.at x.next in
        let y : record { place = x.at; said = said_of w x.term } ≡ t = cc in
        let k : x.next ≡ next = cc in
        let p : x.at ≡ t.place = ap (λ (z : Placed). z.place) y in
        let n : length w ≤ x.next - x.at = rw length-take (omega arith) in
        let a = parts_length w x.term in
        let l = line_length (record { place = x.at; said = said_of w x.term }) in
        rw (← y) (omega (arith, f.from, f.some))

lines_length : {s : List ℕ} {i : ℕ} {ts : List Placed} → Reads s i ts → length (lines_of ts) ≤ 78 * (length s - i)
unfolding lines_of
lines_length (stop e) = omega arith
lines_length {s} {i} (step {next = next} {t = t} e r) =
    let f = further (found s i next t e) in
    rw length-append (omega (arith, f.from, f.some, f.inside, step_length s i t next e f, lines_length r))

pub refusal_length : (number place : ℕ) → length (refusal_line number place) ≤ 60
unfolding refusal_line
refusal_length number place = simp length-append (omega (arith, length_decimal number, length_decimal place))

listing_length : (s : List ℕ) (ts : List Placed) → length s ≤ 4096 → Reads s 6 ts → length (listing_of ts) ≤ 320000
unfolding listing_of
listing_length s ts h r = simp length-append (omega (arith, lines_length r))

pub prints_length : {s xs : List ℕ} → Prints s xs → length xs ≤ room
prints_length (refuses {number = n} {place = p} a) = omega (arith, refusal_length n p)
prints_length {s} (lists {ts = ts} h d) = listing_length s ts h (record_complete d h).walk
