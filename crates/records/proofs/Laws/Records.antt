-- Reading a record and then term after term: accepted exactly if produced, with the one reading; refused with the number and place that the
-- productions say. From the laws of Walks, of Rests and of the version.
use lib.Dec.{eqb}
use Rattle.records.specs.declared.Reason.{Reason}
use Rattle.std.proofs.Common.{None, Ok, Err}
use Prim.Native.Nat.{ℕ, suc, ◌+◌, ◌≤◌, ◌<◌}
use mathlib.Core.Path.{◌≡◌, refl, sym, ap, subst, ◌∙◌}
use mathlib.Core.Logic.{inl, inr, ⊎_elim}
use mathlib.Core.List.{List, [], ◌∷◌, ◌++◌, append-nil, append_assoc}
use mathlib.Core.Bool.{Bool, true, false, ◌&&◌, ◌||◌, cond}
use native.Mathlib.Omega.{arith}
use lib.ListN.{length, take, drop, length-append}
use lib.Seq.{drop-length, drop-drop, drop-append_seam}
use borrow.Author.Tests.{lt-ltb, le-ltb}
use Rattle.text.specs.Bytes.{at, is_space}
use Rattle.text.specs.Lists.{all, same}
use Rattle.text.specs.Texts.{bytes}
use Rattle.text.proofs.Laws.Tests.{test_fails, and_both, or_false_left, or_false_right, test_holds}
use Rattle.text.proofs.Laws.Orders.{le_or_lt}
use Rattle.text.proofs.Laws.Parts.{all_append}
use Rattle.text.proofs.Laws.Spans.{Span, span_rest}
use Rattle.records.specs.Readings.{Said, Placed}
use Rattle.records.specs.Grammar.{Literal, TermText, Terms, count_of, Once, Record, spf1}
use Rattle.records.specs.Numbers.{RecordReport, record_report, accepted, refused, RecordAnswer, refusal, number_of}
use Rattle.records.specs.Answers.{most_bytes, NoTerm, Version, Front, RecordAnswers, too_long, no_version, outside, repeated, produced, ReadsRecord}
use Rattle.records.specs.Reader.{token_answer, read_term, is_redirect, is_explanation, check_from, has_version, read_record, Reads, stop, step, after_version}
use Rattle.records.specs.Beginnings.{pointed, point_record, pointed_record}
use Rattle.records.proofs.Laws.Terms.{no_term_outside, points}
use Rattle.records.proofs.Laws.Longest.{longest_found, longest_one}
use Rattle.records.proofs.Laws.NextRuns.{NextRun, next_run, read_run, read_spaces}
use Rattle.records.proofs.Laws.Counts.{count, count_none, count_more, count_append, count_false, Fits, count_small, flag_sum}
use Rattle.records.proofs.Laws.Versions.{version_size, version_rest, has_version_lem, version_of, version_inside}
use Rattle.records.proofs.Laws.Walks.{Walk, terms_walk, terms_boundary, space_more, walk_reads, check_end, check_refused, check_twice, Reached, check_walk, term_read}
use Rattle.records.proofs.Laws.Rests.{FrontFrom, Rest, rest_answers}

-- the three ways through `read_record`
pub read_record_long : (s : List ℕ) → most_bytes < length s → read_record s ≡ Err (refusal Reason.TooLong 0)
unfolding read_record
read_record_long s h = simp (lt-ltb most_bytes (length s) h)

pub read_record_other : (s : List ℕ) → length s ≤ most_bytes → has_version s ≡ false → read_record s ≡ Err (refusal Reason.NoVersion 0)
unfolding read_record
read_record_other s h v = simp (le-ltb most_bytes (length s) h, v)

pub read_record_terms : (s : List ℕ) → length s ≤ most_bytes → has_version s ≡ true → read_record s ≡ check_from (suc (length s)) s after_version false false
unfolding read_record
read_record_terms s h v = simp (le-ltb most_bytes (length s) h, v)

-- each name at most once, as the counts from the front on
once_fits : (ts : List Placed) → Once ts → Fits (count false) (count false) ts
once_fits ts o = record { redirects = omega (arith, o.redirects, count_false); explanations = omega (arith, o.explanations, count_false) }

fits_once : (ts : List Placed) → Fits (count false) (count false) ts → Once ts
fits_once ts o = record { redirects = omega (arith, o.redirects, count_false); explanations = omega (arith, o.explanations, count_false) }

-- the loop after a walk from the version on
loop_after : {s : List ℕ} {ts : List Placed} {j : ℕ} → length s ≤ most_bytes → has_version s ≡ true → Walk s after_version ts j → Once ts
    → Reached s (read_record s) (count false) (count false) ts j
loop_after {s} {ts} {j} h v w o =
    let z = check_walk h w (length s) (omega arith) false false (once_fits ts o) in
    record { fuel = z.fuel; flag = z.flag; mark = z.mark; is = read_record_terms s h v ∙ z.is; redirects = z.redirects; explanations = z.explanations }

-- complete: what the grammar produces is accepted, and its terms are read one after the other, then the end
pub record Accepts (s : List ℕ) (ts : List Placed) : Type 0 where
  pub accepted : read_record s ≡ Ok after_version
  pub walk : Reads s after_version ts

pub terms_accepted : {s v rest : List ℕ} {ts : List Placed} → Version s v rest → Terms after_version rest ts → Once ts → length s ≤ most_bytes → Accepts s ts
terms_accepted {s} {v} {rest} {ts} d t o h =
    let r : Span s after_version (length s) rest = subst (Span s after_version (length s)) (version_rest d) (span_rest s after_version (version_inside d)) in
    let w = terms_walk t s (length s) r (inl (drop-length s)) in
    let q : read_term s w.last ≡ Ok None = read_spaces h w.spaces w.blank in
    let z = loop_after h (has_version_lem d) w.walk o in
    record {
      accepted = z.is ∙ check_end z.fuel s w.last z.flag z.mark q;
      walk = walk_reads h w.walk q;
    }

record_version : (v rest : List ℕ) {ts : List Placed} → Literal (bytes "v=spf1") v → Terms (length v) rest ts → Version (v ++ rest) v rest
record_version v rest l t = record { whole = refl; version = l; ends = simp append-nil at (terms_boundary t [] (inl refl)) }

pub record_complete : {s : List ℕ} {ts : List Placed} → Record s ts → length s ≤ most_bytes → Accepts s ts
record_complete (spf1 {v = v} {rest = rest} {ts = ts} l t o) h =
    let d = record_version v rest l t in
    terms_accepted d (subst (λ (n : ℕ). Terms n rest ts) (version_size d) t) o h

pub record_accepted : {s : List ℕ} {ts : List Placed} → Record s ts → length s ≤ most_bytes → pointed_record s ≡ Ok after_version
unfolding point_record
record_accepted {s} d h = ap (point_record s) (record_complete d h).accepted

-- a walk that ends is one list of terms
pub reads_one : {s : List ℕ} {i : ℕ} {ts us : List Placed} → Reads s i ts → Reads s i us → ts ≡ us
reads_one (stop p) (stop q) = refl
reads_one (stop p) (step q r) = let z : ◌≡◌ {A = ℕ} 0 1 = cc in cc
reads_one (step p r) (stop q) = let z : ◌≡◌ {A = ℕ} 0 1 = cc in cc
reads_one {s} (step {next = a} {t = t} {ts = ts} p r) (step {next = b} {t = u} {ts = us} q z) =
    let n : a ≡ b = cc in
    let e : t ≡ u = cc in
    let l : ts ≡ us = reads_one r (subst (λ (j : ℕ). Reads s j us) (sym n) z) in
    cc

-- one reading
pub one_reading : {s : List ℕ} {ts us : List Placed} → length s ≤ most_bytes → Record s ts → Record s us → ts ≡ us
one_reading h d e = reads_one (record_complete d h).walk (record_complete e h).walk

-- the front of a refused record as the loop walks over it, and the run at the place
record FrontWalked (s : List ℕ) (ts : List Placed) (w : List ℕ) (p : ℕ) : Type 0 where
  last : ℕ
  finish : ℕ
  left : List ℕ
  walk : Walk s after_version ts last
  next : NextRun s last p finish left w

front_walked : {s : List ℕ} {ts : List Placed} {w : List ℕ} {p : ℕ} → Front s ts w p → FrontWalked s ts w p
front_walked {s} {ts} {w} {p} f =
    let tail = (32 ∷ f.gap) ++ (w ++ f.rest) in
    let n = version_size f.version in
    let d : drop after_version s ≡ f.front ++ tail = version_rest f.version in
    let e : drop (after_version + length f.front) s ≡ tail = sym (drop-drop (length f.front) after_version s) ∙ ap (drop (length f.front)) d ∙ drop-append_seam f.front tail in
    let g : Span s after_version (after_version + length f.front) f.front = record { split = d ∙ ap (λ (t : List ℕ). f.front ++ t) (sym e); size = refl } in
    let z = terms_walk (subst (λ (k : ℕ). Terms k f.front ts) n f.terms) s (after_version + length f.front) g (inr (ap (λ (t : List ℕ). at t 0) e)) in
    let u = z.left ++ (32 ∷ f.gap) in
    let x : drop z.last s ≡ u ++ (w ++ f.rest) = z.spaces.split ∙ ap (λ (t : List ℕ). z.left ++ t) e ∙ sym (append_assoc z.left (32 ∷ f.gap) (w ++ f.rest)) in
    let m : all is_space u ≡ true = all_append is_space z.left (32 ∷ f.gap) ∙ and_both _ _ z.blank (space_more f.gap f.spaces) in
    let q : z.last + length u ≡ p = omega (arith, f.place_is, n, z.spaces.size, length-append z.left (32 ∷ f.gap)) in
    record {
      last = z.last;
      finish = z.last + (length u + length w);
      left = u;
      walk = z.walk;
      next = subst (λ (k : ℕ). NextRun s z.last k (z.last + (length u + length w)) u w) q (next_run s z.last u w f.rest x m f.run);
    }

-- a report with 32's place at the byte
abbrev number_pointed : List ℕ → ℕ → ℕ → ℕ
number_pointed s number p = cond (eqb number 32) (pointed s Reason.Outside p) p

abbrev point_report : List ℕ → RecordReport → RecordReport
point_report s (accepted n) = accepted n
point_report s (refused number p) = refused number (number_pointed s number p)

by_number : (s : List ℕ) (reason : Reason) (p : ℕ) → pointed s reason p ≡ number_pointed s (number_of reason) p
unfolding pointed
by_number s Reason.TooLong p = refl
by_number s Reason.NoVersion p = refl
by_number s Reason.Outside p = refl
by_number s Reason.Repeated p = refl
by_number s Reason.Beyond p = refl

report_pointed : (s : List ℕ) (r : RecordAnswer) → record_report (point_record s r) ≡ point_report s (record_report r)
unfolding point_record
report_pointed s (Ok n) = refl
report_pointed s (Err x) = ap (refused (number_of x.reason)) (by_number s x.reason x.at)

-- the answer for any record, refusals too
module _ (s : List ℕ) (h : length s ≤ most_bytes) (d : Version s (take after_version s) (drop after_version s)) where
  made : {ts : List Placed} → Terms after_version (drop after_version s) ts → Once ts → RecordAnswers s (accepted after_version)
  made {ts} t o =
      subst (λ (n : ℕ). RecordAnswers s (accepted n)) (version_size d)
      (produced h d (subst (λ (y : List ℕ). Record y ts) (sym d.whole)
      (spf1 {v = take after_version s} d.version (subst (λ (n : ℕ). Terms n (drop after_version s) ts) (sym (version_size d)) t) o)))

  front_of : {ts : List Placed} {w : List ℕ} {p : ℕ} → FrontFrom s after_version ts w p → Front s ts w p
  front_of {ts} {w} {p} f = record {
    v = take after_version s;
    front = f.front;
    gap = f.gap;
    rest = f.rest;
    version = subst (Version s (take after_version s)) f.split d;
    terms = subst (λ (n : ℕ). Terms n f.front ts) (sym (version_size d)) f.terms;
    spaces = f.spaces;
    run = f.is_run;
    place_is = omega (arith, f.place_is, version_size d);
  }

  rest_record : {answer : RecordReport} → Rest s after_version (count false) (count false) answer → RecordAnswers s (point_report s answer)
  unfolding pointed
  rest_record (Rest.read {ts = ts} t c) = made t (fits_once ts c)
  rest_record (Rest.stopped {ts = ts} {w = w} f c q) =
      subst (λ (n : ℕ). RecordAnswers s (refused 32 n)) (sym (points (front_walked (front_of f)).next))
      (outside h (front_of f) (fits_once ts c) q (longest_found w))
  rest_record (Rest.twice {ts = ts} {p = p} {x = x} f c q n) =
      repeated h (front_of f) (fits_once ts c) q (λ o. n (once_fits (ts ++ (record { place = p; said = x } ∷ [])) o))

pub record_answers : (s : List ℕ) → ReadsRecord s (pointed_record s)
unfolding point_record pointed
record_answers s = ⊎_elim
    (λ (h : length s ≤ most_bytes). by h (has_version s) refl)
    (λ (h : most_bytes < length s). subst (λ (r : RecordAnswer). ReadsRecord s (point_record s r)) (sym (read_record_long s h)) (too_long h))
    (le_or_lt (length s) most_bytes)
  where
    by : length s ≤ most_bytes → (t : Bool) → has_version s ≡ t → ReadsRecord s (pointed_record s)
    by h true q =
        let d = version_of s q in
        let r = check_from (suc (length s)) s after_version false false in
        subst (λ (r : RecordAnswer). ReadsRecord s (point_record s r)) (sym (read_record_terms s h q))
        (subst (RecordAnswers s) (sym (report_pointed s r))
        (rest_record s h d (rest_answers (suc (length s)) s after_version h (version_inside d) d.ends (omega arith) false false)))
    by h false q =
        subst (λ (r : RecordAnswer). ReadsRecord s (point_record s r)) (sym (read_record_other s h q))
        (no_version h (λ v rest d. let t = has_version_lem d in let z : ◌≡◌ {A = ℕ} 0 1 = cc in omega arith))

-- what an acceptance says of a text
pub record Accepting (s : List ℕ) (n : ℕ) : Type 0 where
  pub short : length s ≤ most_bytes
  pub first : n ≡ after_version
  pub terms : List Placed
  pub reading : Record s terms

pub accepting : (s : List ℕ) (n : ℕ) → RecordAnswers s (accepted n) → Accepting s n
accepting s n a = by a refl
  where
    by : {r : RecordReport} → RecordAnswers s r → r ≡ accepted n → Accepting s n
    by (too_long h) q = absurd (let z : ◌≡◌ {A = ℕ} 0 1 = cc in omega arith)
    by (no_version h v) q = absurd (let z : ◌≡◌ {A = ℕ} 0 1 = cc in omega arith)
    by (outside h f o i l) q = absurd (let z : ◌≡◌ {A = ℕ} 0 1 = cc in omega arith)
    by (repeated h f o d m) q = absurd (let z : ◌≡◌ {A = ℕ} 0 1 = cc in omega arith)
    by (produced {v = v} {ts = ts} h d r) q =
        let e : n ≡ length v = cc in
        record { short = h; first = e ∙ version_size d; terms = ts; reading = r }

pub record_accepting : (s : List ℕ) (n : ℕ) → read_record s ≡ Ok n → Accepting s n
unfolding point_record
record_accepting s n e = accepting s n (subst (λ (r : RecordAnswer). ReadsRecord s (point_record s r)) e (record_answers s))

-- sound: what is accepted, the grammar produces
pub record_sound : (s : List ℕ) (n : ℕ) → read_record s ≡ Ok n → (ts : List Placed) × Record s ts
record_sound s n e = let a = record_accepting s n e in (a.terms, a.reading)

outside_is : {s : List ℕ} {ts : List Placed} {w : List ℕ} {p : ℕ} → length s ≤ most_bytes → Front s ts w p → Once ts → NoTerm w → read_record s ≡ Err (refusal Reason.Outside p)
unfolding token_answer
outside_is {s} {ts} {w} {p} h f o i =
    let g = front_walked f in
    let z = loop_after h (has_version_lem f.version) g.walk o in
    z.is ∙ check_refused z.fuel s g.last z.flag z.mark (refusal Reason.Outside p) (read_run g.next h ∙ ap (token_answer p g.finish) (no_term_outside w i))

-- with one more term that repeats none, each name still stands at most once
once_more : (ts : List Placed) (t : Placed) (r x p q : Bool) → count r ≡ count false + count_of (bytes "redirect") ts → count x ≡ count false + count_of (bytes "exp") ts
    → same t.said.name (bytes "redirect") ≡ p → same t.said.name (bytes "exp") ≡ q → ((r && p) || (x && q)) ≡ false → Once (ts ++ (t ∷ []))
once_more ts t r x p q a b cr cx h =
    let mr = count_more (bytes "redirect") t [] ∙ ap (λ (y : Bool). count y + count_of (bytes "redirect") []) cr in
    let mx = count_more (bytes "exp") t [] ∙ ap (λ (y : Bool). count y + count_of (bytes "exp") []) cx in
    record {
      redirects = omega (arith, a, count_false, mr, count_none (bytes "redirect"), count_append (bytes "redirect") ts (t ∷ []), flag_sum r p (or_false_left (r && p) (x && q) h), count_small (r || p));
      explanations = omega (arith, b, count_false, mx, count_none (bytes "exp"), count_append (bytes "exp") ts (t ∷ []), flag_sum x q (or_false_right (r && p) (x && q) h), count_small (x || q));
    }

repeated_is : {s : List ℕ} {ts : List Placed} {w : List ℕ} {p : ℕ} {x : Said} → length s ≤ most_bytes → Front s ts w p → Once ts → TermText w x
    → (Once (ts ++ (record { place = p; said = x } ∷ [])) → ⊥) → read_record s ≡ Err (refusal Reason.Repeated p)
repeated_is {s} {ts} {w} {p} {x} h f o d n =
    let g = front_walked f in
    let z = loop_after h (has_version_lem f.version) g.walk o in
    let t = term_read h g.next d in
    let e : ((z.flag && is_redirect t.found) || (z.mark && is_explanation t.found)) ≡ true = test_holds _
    (λ c. n (once_more ts (record { place = p; said = x }) z.flag z.mark (is_redirect t.found) (is_explanation t.found) z.redirects z.explanations t.redirect t.explanation c)) in
    z.is ∙ check_twice z.fuel s g.last z.flag z.mark p g.finish t.found t.read e

-- for the reader: what the productions say of an answer determines it, so `RecordAnswers` is no weaker than the equation with `pointed_record`
pub record_answers_is : (s : List ℕ) (r : RecordReport) → RecordAnswers s r → r ≡ record_report (pointed_record s)
unfolding point_record pointed
record_answers_is s r (too_long h) = ap (λ (x : RecordAnswer). record_report (point_record s x)) (sym (read_record_long s h))
record_answers_is s r (no_version h v) =
    ap (λ (x : RecordAnswer). record_report (point_record s x))
    (sym (read_record_other s h (test_fails (has_version s) (λ q. v (take after_version s) (drop after_version s) (version_of s q)))))
record_answers_is s r (outside {w = w} {p = p} {n = n} h f o i l) =
    let q : p + n ≡ pointed s Reason.Outside p = ap (λ (k : ℕ). p + k) (longest_one l (longest_found w)) ∙ sym (points (front_walked f).next) in
    ap (refused 32) q ∙ ap (λ (x : RecordAnswer). record_report (point_record s x)) (sym (outside_is h f o i))
record_answers_is s r (repeated h f o d n) = ap (λ (x : RecordAnswer). record_report (point_record s x)) (sym (repeated_is h f o d n))
record_answers_is s r (produced h v d) = ap accepted (version_size v) ∙ ap record_report (sym (record_accepted d h))
