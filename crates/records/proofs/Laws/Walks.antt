-- Terms one after the other: from the productions to the reader, with its fuel and its two flags. From the laws of one term and of runs.
use Rattle.records.specs.declared.Refusal.{Refusal}
use Rattle.records.specs.declared.Reason.{Reason}
use Rattle.std.proofs.Common.{None, Ok, Err}
use Prim.Native.Nat.{ℕ, zero, suc, ◌+◌, ◌-◌, ◌≤◌}
use mathlib.Core.Path.{◌≡◌, refl, sym, ap, subst, ◌∙◌}
use mathlib.Core.Logic.{inr}
use mathlib.Core.List.{List, [], ◌∷◌, ◌++◌}
use mathlib.Core.Bool.{Bool, true, false, ◌&&◌, ◌||◌}
use native.Mathlib.Omega.{arith}
use lib.ListN.{length, drop, length-append}
use Rattle.text.specs.Bytes.{part, is_space}
use Rattle.text.specs.Lists.{all, same}
use Rattle.text.specs.Texts.{bytes}
use Rattle.text.proofs.Laws.Tests.{and_left, or_false_both}
use Rattle.text.proofs.Laws.Spans.{Span, span_cut, span_word}
use Rattle.text.proofs.Laws.Classes.{space_is}
use Rattle.records.specs.Readings.{Said, Placed}
use Rattle.records.specs.Grammar.{TermText, Terms, done, term, count_of}
use Rattle.records.specs.Numbers.{said_of, TermReport, term_report, RecordAnswer, term_at, refusal}
use Rattle.records.specs.Answers.{most_bytes, Boundary}
use Rattle.records.specs.Reader.{token_answer, read_term, is_redirect, is_explanation, check_after, check_from, Reads, stop, step, after_version}
use Rattle.records.specs.declared.Term.{Term}
use Rattle.records.proofs.Laws.Tokens.{token_complete, term_solid, redirect_name, explanation_name}
use Rattle.records.proofs.Laws.NextRuns.{NextRun, run_forward, read_run}
use Rattle.records.proofs.Laws.Counts.{count, count_none, count_more, Fits, flag_free, flag_sum}

-- from place i the terms ts, the last of which ends at j
pub data Walk (s : List ℕ) : ℕ → List Placed → ℕ → Type 0 where
  here : {i : ℕ} → Walk s i [] i
  next : {i a e j : ℕ} {u w : List ℕ} {x : Said} {ts : List Placed} → NextRun s i a e u w → TermText w x → Walk s e ts j
      → Walk s i (record { place = a; said = x } ∷ ts) j

-- what the terms of the productions begin with
spaces_boundary : (w rest : List ℕ) → all is_space w ≡ true → Boundary rest → Boundary (w ++ rest)
unfolding all
spaces_boundary [] rest h b = b
spaces_boundary (x ∷ w) rest h b = inr (space_is x (and_left (is_space x) (all is_space w) h))

pub terms_boundary : {p : ℕ} {w : List ℕ} {ts : List Placed} → Terms p w ts → (rest : List ℕ) → Boundary rest → Boundary (w ++ rest)
terms_boundary (done {w = w} m) rest b = spaces_boundary w rest m b
terms_boundary (term u w m d r) rest b = inr refl

-- a walk over them, and the spaces after the last
pub record Walked (s : List ℕ) (i : ℕ) (ts : List Placed) (j : ℕ) : Type 0 where
  pub last : ℕ
  pub left : List ℕ
  pub walk : Walk s i ts last
  pub spaces : Span s last j left
  pub blank : all is_space left ≡ true

-- one space more
pub space_more : (u : List ℕ) → all is_space u ≡ true → all is_space (32 ∷ u) ≡ true
unfolding all is_space
space_more u h = h

-- with one term more at the front
walk_term : {s : List ℕ} {i a e j : ℕ} {u w rest : List ℕ} {x : Said} {ts : List Placed} → Span s i a u → all is_space u ≡ true → TermText w x → Span s a e w
    → Span s e j rest → Boundary (rest ++ drop j s) → Walked s e ts j → Walked s i (record { place = a; said = x } ∷ ts) j
walk_term g m d v l b z =
    let o = term_solid d in
    record {
      last = z.last;
      left = z.left;
      walk = next (record { spaces = g; blank = m; word = v; is_run = record { some = o.some; solid = o.no_space; ends = subst Boundary (sym l.split) b } }) d z.walk;
      spaces = z.spaces;
      blank = z.blank;
    }

pub terms_walk : {p : ℕ} {w : List ℕ} {ts : List Placed} → Terms p w ts → (s : List ℕ) (j : ℕ) → Span s p j w → Boundary (drop j s) → Walked s p ts j
terms_walk (done {p = p} {w = w} m) s j sp b = record { last = p; left = w; walk = here; spaces = sp; blank = m }
terms_walk (term {p = p} u w {rest = rest} m d r) s j sp b =
    let c = span_cut (32 ∷ u) (w ++ rest) sp in
    let q : p + length (32 ∷ u) + length w ≡ p + length ((32 ∷ u) ++ w) = omega (arith, length-append u w) in
    let g : Span s (p + length (32 ∷ u)) (p + length ((32 ∷ u) ++ w)) w × Span s (p + length ((32 ∷ u) ++ w)) j rest =
    subst (λ (k : ℕ). Span s (p + length (32 ∷ u)) k w × Span s k j rest) q (span_cut w rest c.1) in
    walk_term c.0 (space_more u m) d g.0 g.1 (terms_boundary r (drop j s) b) (terms_walk r s j g.1 b)

-- a term that the productions make, as the reader answers it
pub record TermRead (s : List ℕ) (i a e : ℕ) (x : Said) : Type 0 where
  pub found : Term
  pub read : read_term s i ≡ term_at a e found
  pub says : said_of (part s a e) found ≡ x
  pub redirect : same x.name (bytes "redirect") ≡ is_redirect found
  pub explanation : same x.name (bytes "exp") ≡ is_explanation found

pub term_read : {s : List ℕ} {i a e : ℕ} {u w : List ℕ} {x : Said} → length s ≤ most_bytes → NextRun s i a e u w → TermText w x → TermRead s i a e x
unfolding token_answer
term_read {s} {i} {a} {e} {u} {w} {x} h n d =
    let o = token_complete d in
    record {
      found = o.term;
      read = read_run n h ∙ ap (token_answer a e) o.read;
      says = ap (λ (y : List ℕ). said_of y o.term) (span_word n.word) ∙ o.says;
      redirect = subst (λ (y : Said). same y.name (bytes "redirect") ≡ is_redirect o.term) o.says (redirect_name w o.term o.read);
      explanation = subst (λ (y : Said). same y.name (bytes "exp") ≡ is_explanation o.term) o.says (explanation_name w o.term o.read);
    }

-- reading term after term, up to the end
pub walk_reads : {s : List ℕ} {i j : ℕ} {ts : List Placed} → length s ≤ most_bytes → Walk s i ts j → read_term s j ≡ Ok None → Reads s i ts
walk_reads h here q = stop (ap (term_report _) q)
walk_reads {s} h (next {a = a} {e = e} n d k) q =
    let o = term_read h n d in
    step (ap (term_report s) o.read ∙ ap (λ (y : Said). TermReport.term e (record { place = a; said = y })) o.says) (walk_reads h k q)

-- the loop, by what reading a term answers
module _ (f : ℕ) (s : List ℕ) (i : ℕ) (r x : Bool) where
  pub check_end : read_term s i ≡ Ok None → check_from (suc f) s i r x ≡ Ok after_version
  unfolding check_from check_after
  check_end q = simp q

  pub check_refused : (y : Refusal) → read_term s i ≡ Err y → check_from (suc f) s i r x ≡ Err y
  unfolding check_from check_after
  check_refused y q = simp q

  module _ (a e : ℕ) (t : Term) (q : read_term s i ≡ term_at a e t) where
    pub check_twice : ((r && is_redirect t) || (x && is_explanation t)) ≡ true → check_from (suc f) s i r x ≡ Err (refusal Reason.Repeated a)
    unfolding check_from check_after
    check_twice h = simp (q, h)

    pub check_on : ((r && is_redirect t) || (x && is_explanation t)) ≡ false
        → check_from (suc f) s i r x ≡ check_from f s e (r || is_redirect t) (x || is_explanation t)
    unfolding check_from check_after
    check_on h = simp (q, h)

-- where the loop stands after a walk
pub record Reached (s : List ℕ) (answer : RecordAnswer) (m n : ℕ) (ts : List Placed) (j : ℕ) : Type 0 where
  pub fuel : ℕ
  pub flag : Bool
  pub mark : Bool
  pub is : answer ≡ check_from (suc fuel) s j flag mark
  pub redirects : count flag ≡ m + count_of (bytes "redirect") ts
  pub explanations : count mark ≡ n + count_of (bytes "exp") ts

-- with one term more at the front
reached_before : {s : List ℕ} {a b : RecordAnswer} {m n k l : ℕ} (t : Placed) {ts : List Placed} {j : ℕ} → b ≡ a → k ≡ m + count (same t.said.name (bytes "redirect"))
    → l ≡ n + count (same t.said.name (bytes "exp")) → Reached s a k l ts j → Reached s b m n (t ∷ ts) j
reached_before t {ts} e p q z = record {
  fuel = z.fuel;
  flag = z.flag;
  mark = z.mark;
  is = e ∙ z.is;
  redirects = omega (arith, z.redirects, count_more (bytes "redirect") t ts);
  explanations = omega (arith, z.explanations, count_more (bytes "exp") t ts);
}

pub check_walk : {s : List ℕ} {i j : ℕ} {ts : List Placed} → length s ≤ most_bytes → Walk s i ts j → (f : ℕ) → length s - i ≤ f → (r x : Bool)
    → Fits (count r) (count x) ts → Reached s (check_from (suc f) s i r x) (count r) (count x) ts j
check_walk h here f k r x c = record {
  fuel = f;
  flag = r;
  mark = x;
  is = refl;
  redirects = omega (arith, count_none (bytes "redirect"));
  explanations = omega (arith, count_none (bytes "exp"));
}
check_walk h (next n d g) zero k r x c = let l = run_forward n in absurd (omega arith)
check_walk {s} {i} {j} h (next {a = a} {e = e} {x = y} {ts = ts} n d g) (suc f) k r x c =
    let o = term_read h n d in
    let t : Placed = record { place = a; said = y } in
    let l = run_forward n in
    let cr = count_more (bytes "redirect") t ts in
    let cx = count_more (bytes "exp") t ts in
    let nr = ap count o.redirect in
    let nx = ap count o.explanation in
    let fr = flag_free r (is_redirect o.found) (omega (arith, c.redirects)) in
    let fx = flag_free x (is_explanation o.found) (omega (arith, c.explanations)) in
    let sr = flag_sum r (is_redirect o.found) fr in
    let sx = flag_sum x (is_explanation o.found) fx in
    let fits : Fits (count (r || is_redirect o.found)) (count (x || is_explanation o.found)) ts = record { redirects = omega (arith, c.redirects); explanations = omega (arith, c.explanations) } in
    reached_before t (check_on (suc f) s i r x a e o.found o.read (or_false_both _ _ fr fx)) (omega arith) (omega arith)
    (check_walk h g f (omega arith) (r || is_redirect o.found) (x || is_explanation o.found) fits)
