-- What the reader answers from a place on is what the productions say: accepted, the place of the first run that is no term, or that of a second
-- redirect or exp. By the fuel, from the laws of one term.
use Rattle.records.specs.declared.Reason.{Reason}
use Rattle.std.proofs.Common.{Some, Err}
use Prim.Native.Nat.{ℕ, zero, suc, ◌+◌, ◌-◌, ◌≤◌, ◌<◌}
use mathlib.Core.Path.{◌≡◌, refl, sym, ap, subst, ◌∙◌}
use mathlib.Core.List.{List, [], ◌∷◌, ◌++◌, append_assoc}
use mathlib.Core.Bool.{Bool, true, ◌&&◌, ◌||◌}
use native.Mathlib.Omega.{arith}
use lib.ListN.{length, drop, length-append}
use Rattle.text.specs.Bytes.{part, is_space}
use Rattle.text.specs.Lists.{all, same}
use Rattle.text.specs.Texts.{bytes}
use Rattle.text.proofs.Laws.Tests.{cond-elim, or_elim, or_false_left, or_false_right}
use Rattle.text.proofs.Laws.Spans.{span_join}
use Rattle.records.specs.Readings.{Said, Placed}
use Rattle.records.specs.Grammar.{TermText, Terms, done, term, count_of}
use Rattle.records.specs.Numbers.{said_of, RecordReport, record_report, accepted, refused, TermAnswer, RecordAnswer, term_at, refusal}
use Rattle.records.specs.Answers.{most_bytes, Boundary, Run, NoTerm}
use Rattle.records.specs.Reader.{token_of, is_redirect, is_explanation, check_after, check_from, after_version}
use Rattle.records.specs.declared.Term.{Term}
use Rattle.records.proofs.Laws.Tokens.{token_sound, redirect_name, explanation_name}
use Rattle.records.proofs.Laws.Terms.{outside_no_term}
use Rattle.records.proofs.Laws.NextRuns.{run_forward, Gap, gap_of, View, term_view}
use Rattle.records.proofs.Laws.Counts.{count, count_none, count_more, Fits, count_small, flag_sum, flag_twice}

-- from a place on: terms of the grammar, and then, after one space or more, a run of non-spaces
pub record FrontFrom (s : List ℕ) (i : ℕ) (ts : List Placed) (w : List ℕ) (p : ℕ) : Type 0 where
  pub front : List ℕ
  pub gap : List ℕ
  pub rest : List ℕ
  pub split : drop i s ≡ front ++ ((32 ∷ gap) ++ (w ++ rest))
  pub terms : Terms i front ts
  pub spaces : all is_space gap ≡ true
  pub is_run : Run w rest
  pub place_is : p ≡ i + (length front + length (32 ∷ gap))

-- what the answer says of the rest, where m redirects and n exps have stood before
pub data Rest (s : List ℕ) (i m n : ℕ) : RecordReport → Type 0 where
  read : {ts : List Placed} → Terms i (drop i s) ts → Fits m n ts → Rest s i m n (accepted after_version)
  stopped : {ts : List Placed} {w : List ℕ} {p : ℕ} → FrontFrom s i ts w p → Fits m n ts → NoTerm w → Rest s i m n (refused 32 p)
  twice : {ts : List Placed} {w : List ℕ} {p : ℕ} {x : Said} → FrontFrom s i ts w p → Fits m n ts → TermText w x
      → (Fits m n (ts ++ (record { place = p; said = x } ∷ [])) → ⊥) → Rest s i m n (refused 33 p)

-- a term before others
term_before : {s : List ℕ} {i a e : ℕ} {w : List ℕ} {x : Said} (g : Gap s i a e w) → TermText w x → (rest : List ℕ) {ts : List Placed} → Terms e rest ts
    → Terms i ((32 ∷ g.gap) ++ (w ++ rest)) (record { place = a; said = x } ∷ ts)
term_before {s} {i} {a} {e} {w} {x} g d rest {ts} r =
    let q : e ≡ i + length ((32 ∷ g.gap) ++ w) = (span_join g.next.spaces g.next.word).size in
    subst (λ (k : ℕ). Terms i ((32 ∷ g.gap) ++ (w ++ rest)) (record { place = k; said = x } ∷ ts)) (sym g.next.spaces.size)
    (term g.gap w g.blank d (subst (λ (k : ℕ). Terms k rest ts) q r))

gap_split : {s : List ℕ} {i a e : ℕ} {w : List ℕ} (g : Gap s i a e w) → drop i s ≡ (32 ∷ g.gap) ++ (w ++ drop e s)
gap_split {s} {i} {a} {e} {w} g = g.next.spaces.split ∙ ap (λ (t : List ℕ). (32 ∷ g.gap) ++ t) g.next.word.split

front_here : {s : List ℕ} {i a e : ℕ} {w : List ℕ} → Gap s i a e w → FrontFrom s i [] w a
unfolding all
front_here {s} {i} {a} {e} {w} g = record {
  front = [];
  gap = g.gap;
  rest = drop e s;
  split = gap_split g;
  terms = done refl;
  spaces = g.blank;
  is_run = g.next.is_run;
  place_is = omega (arith, g.next.spaces.size);
}

front_before : {s : List ℕ} {i a e : ℕ} {v : List ℕ} {x : Said} {ts : List Placed} {w : List ℕ} {p : ℕ} → Gap s i a e v → TermText v x → FrontFrom s e ts w p
    → FrontFrom s i (record { place = a; said = x } ∷ ts) w p
front_before {s} {i} {a} {e} {v} {x} {ts} {w} {p} g d f = record {
  front = (32 ∷ g.gap) ++ (v ++ f.front);
  gap = f.gap;
  rest = f.rest;
  split = gap_split g ∙ ap (λ (t : List ℕ). (32 ∷ g.gap) ++ (v ++ t)) f.split ∙ simp append_assoc;
  terms = term_before g d f.front f.terms;
  spaces = f.spaces;
  is_run = f.is_run;
  place_is = simp length-append (omega (arith, f.place_is, g.next.spaces.size, g.next.word.size));
}

-- counts with a term before the others
module _ {m n k l : ℕ} (t : Placed) (a : k ≡ m + count (same t.said.name (bytes "redirect"))) (b : l ≡ n + count (same t.said.name (bytes "exp"))) where
  fits_before : (ts : List Placed) → Fits k l ts → Fits m n (t ∷ ts)
  fits_before ts c = record {
    redirects = omega (arith, c.redirects, count_more (bytes "redirect") t ts);
    explanations = omega (arith, c.explanations, count_more (bytes "exp") t ts);
  }

  fits_after : (ts : List Placed) → Fits m n (t ∷ ts) → Fits k l ts
  fits_after ts c = record {
    redirects = omega (arith, c.redirects, count_more (bytes "redirect") t ts);
    explanations = omega (arith, c.explanations, count_more (bytes "exp") t ts);
  }

rest_before : {s : List ℕ} {i a e : ℕ} {w : List ℕ} {x : Said} {m n k l : ℕ} {answer : RecordReport} → Gap s i a e w → TermText w x
    → k ≡ m + count (same x.name (bytes "redirect")) → l ≡ n + count (same x.name (bytes "exp")) → Rest s e k l answer → Rest s i m n answer
rest_before {s} {i} {a} {e} {w} {x} g d p q (read {ts = ts} r c) =
    let t : Placed = record { place = a; said = x } in
    read (subst (λ (y : List ℕ). Terms i y (t ∷ ts)) (sym (gap_split g)) (term_before g d (drop e s) r)) (fits_before t p q ts c)
rest_before {a = a} {x = x} g d p q (stopped {ts = ts} f c h) = stopped (front_before g d f) (fits_before (record { place = a; said = x }) p q ts c) h
rest_before {a = a} {x = x} g d p q (twice {ts = ts} {p = b} {x = y} f c v h) =
    twice (front_before g d f) (fits_before (record { place = a; said = x }) p q ts c) v
    (λ z. h (fits_after (record { place = a; said = x }) p q (ts ++ (record { place = b; said = y } ∷ [])) z))

fits_none : (r x : Bool) → Fits (count r) (count x) []
fits_none r x = record {
  redirects = omega (arith, count_small r, count_none (bytes "redirect"));
  explanations = omega (arith, count_small x, count_none (bytes "exp"));
}

-- a second one
fits_not : (r x : Bool) (t : Placed) (p q : Bool) → same t.said.name (bytes "redirect") ≡ p → same t.said.name (bytes "exp") ≡ q
    → ((r && p) || (x && q)) ≡ true → Fits (count r) (count x) (t ∷ []) → ⊥
fits_not r x t p q a b h c =
    let cr = count_more (bytes "redirect") t [] ∙ ap (λ (y : Bool). count y + count_of (bytes "redirect") []) a in
    let cx = count_more (bytes "exp") t [] ∙ ap (λ (y : Bool). count y + count_of (bytes "exp") []) b in
    or_elim (r && p) (x && q) h
    (λ (e : (r && p) ≡ true). omega (arith, flag_twice r p e, c.redirects, cr))
    (λ (e : (x && q) ≡ true). omega (arith, flag_twice x q e, c.explanations, cx))

rest_term : (f : ℕ) (s : List ℕ) (i a e : ℕ) (t : Term) (r x : Bool) → Gap s i a e (part s a e) → token_of (part s a e) ≡ Some t
    → ((r y : Bool) → Rest s e (count r) (count y) (record_report (check_from f s e r y)))
    → Rest s i (count r) (count x) (record_report (check_after r x (term_at a e t) (check_from f s)))
unfolding check_after
rest_term f s i a e t r x g o ih =
    let w = part s a e in
    let d : TermText w (said_of w t) = token_sound w t o in
    let nr = redirect_name w t o in
    let nx = explanation_name w t o in
    cond-elim (λ (y : RecordAnswer). Rest s i (count r) (count x) (record_report y)) ((r && is_redirect t) || (x && is_explanation t))
    {x = Err (refusal Reason.Repeated a)} {y = check_from f s e (r || is_redirect t) (x || is_explanation t)}
    (λ q. twice (front_here g) (fits_none r x) d (fits_not r x (record { place = a; said = said_of w t }) (is_redirect t) (is_explanation t) nr nx q))
    (λ q. rest_before g d
    (flag_sum r (is_redirect t) (or_false_left (r && is_redirect t) (x && is_explanation t) q) ∙ ap (λ (b : Bool). count r + count b) (sym nr))
    (flag_sum x (is_explanation t) (or_false_right (r && is_redirect t) (x && is_explanation t) q) ∙ ap (λ (b : Bool). count x + count b) (sym nx))
    (ih (r || is_redirect t) (x || is_explanation t)))

pub rest_answers : (f : ℕ) (s : List ℕ) (i : ℕ) → length s ≤ most_bytes → i ≤ length s → Boundary (drop i s) → length s - i < f → (r x : Bool)
    → Rest s i (count r) (count x) (record_report (check_from f s i r x))
unfolding check_from check_after
rest_answers zero s i h k b l r x = absurd (omega arith)
rest_answers (suc f) s i h k b l r x = by (λ e. rest_answers f s e h) (term_view s i h k)
  where
    by : ((e : ℕ) → e ≤ length s → Boundary (drop e s) → length s - e < f → (r x : Bool) → Rest s e (count r) (count x) (record_report (check_from f s e r x)))
        → {y : TermAnswer} → View s i y → Rest s i (count r) (count x) (record_report (check_after r x y (check_from f s)))
    by ih (View.only_spaces m) = read (done m) (fits_none r x)
    by ih (View.outside {a = a} {e = e} n o) = stopped (front_here (gap_of n b)) (fits_none r x) (outside_no_term (part s a e) o)
    by ih (View.is {a = a} {e = e} {t = t} n o) =
        let z = run_forward n in
        rest_term f s i a e t r x (gap_of n b) o (ih e z.2 n.is_run.ends (omega arith))
