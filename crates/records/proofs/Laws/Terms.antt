-- Reading one term: what the reader answers, with 32's place at the byte, is what the productions say, and nothing else is. From the laws of one term, of
-- the run that is next and of its longest beginning.
use Rattle.records.specs.declared.Reason.{Reason}
use Rattle.std.proofs.Common.{None, Option, Some, Ok, Err}
use Prim.Native.Nat.{ℕ, ◌+◌, ◌≤◌, ◌<◌}
use mathlib.Core.Path.{◌≡◌, refl, sym, ap, subst, ◌∙◌}
use mathlib.Core.Logic.{◌↔◌, ⊎_elim}
use mathlib.Core.List.{List, ◌++◌}
use native.Mathlib.Omega.{arith}
use lib.ListN.{length, drop}
use borrow.Author.Tests.{lt-ltb, le-ltb}
use Rattle.text.specs.Bytes.{part}
use Rattle.text.proofs.Laws.Orders.{le_or_lt}
use Rattle.text.proofs.Laws.Spans.{span_word, span_rest}
use Rattle.records.specs.Readings.{Said, Placed}
use Rattle.records.specs.Grammar.{TermText}
use Rattle.records.specs.Numbers.{said_of, TermReport, term_report, refused, term, TermAnswer, term_at, refusal, number_of}
use Rattle.records.specs.Answers.{most_bytes, Run, NoTerm, TermAnswers, too_long, beyond, only_spaces, outside, produced, ReadsTerm}
use Rattle.records.specs.Reader.{token_of, token_answer, read_term}
use Rattle.records.specs.Beginnings.{longest, pointed, point_term, pointed_term}
use Rattle.records.specs.declared.Term.{Term}
use Rattle.records.proofs.Laws.Tokens.{token_sound, token_complete}
use Rattle.records.proofs.Laws.Longest.{longest_found, longest_one}
use Rattle.records.proofs.Laws.NextRuns.{NextRun, word_end_lem, View, term_view, next_run, read_run, read_spaces}

-- no term is what the reader finds outside, and the other way round
pub outside_no_term : (w : List ℕ) → token_of w ≡ None → NoTerm w
outside_no_term w q x d = let r = token_complete d in let o = r.read in let z : ◌≡◌ {A = ℕ} 0 1 = cc in omega arith

pub no_term_outside : (w : List ℕ) → NoTerm w → token_of w ≡ None
no_term_outside w h = by (token_of w) refl
  where
    by : (t : Option Term) → token_of w ≡ t → t ≡ None
    by (Some t) q = absurd (h (said_of w t) (token_sound w t q))
    by None q = refl

-- where 32 points: just after the longest beginning of the run
pub points : {s : List ℕ} {i a e : ℕ} {u w : List ℕ} → NextRun s i a e u w → pointed s Reason.Outside a ≡ a + longest w
unfolding pointed
points n = simp (word_end_lem n, span_word n.word)

-- what is no refusal stays as it is
pub point_kept : (s : List ℕ) (r : TermAnswer) (x : TermReport) → ((number p : ℕ) → x ≡ refused number p → ⊥)
    → (term_report s (point_term s r) ≡ x) ↔ (term_report s r ≡ x)
unfolding point_term
point_kept s (Ok None) x h = (λ e. e, λ e. e)
point_kept s (Ok (Some t)) x h = (λ e. e, λ e. e)
point_kept s (Err f) x h = (λ e. absurd (h (number_of f.reason) (pointed s f.reason f.at) (sym e)), λ e. absurd (h (number_of f.reason) f.at (sym e)))

pub term_unpointed : (s : List ℕ) (r : TermAnswer) (at next : ℕ) (t : Term) → point_term s r ≡ term_at at next t → r ≡ term_at at next t
unfolding point_term
term_unpointed s (Ok x) at next t e = e
term_unpointed s (Err x) at next t e = let z : ◌≡◌ {A = ℕ} 0 1 = cc in absurd (omega arith)

pub no_refusal : (next : ℕ) (t : Placed) (number p : ℕ) → term next t ≡ refused number p → ⊥
no_refusal next t number p e = let z : ◌≡◌ {A = ℕ} 0 1 = cc in omega arith

-- the places by the lengths
place_refused : {s : List ℕ} {i a e : ℕ} {u w : List ℕ} → NextRun s i a e u w → length s ≤ most_bytes → i ≤ length s → NoTerm w
    → TermAnswers s i (refused 32 (pointed s Reason.Outside a))
place_refused {s} {i} {a} {e} {u} {w} n h k f =
    let q : i + length u + longest w ≡ pointed s Reason.Outside a = ap (λ (p : ℕ). p + longest w) (sym n.spaces.size) ∙ sym (points n) in
    subst (λ (p : ℕ). TermAnswers s i (refused 32 p)) q
    (outside u w (drop e s) h k (n.spaces.split ∙ ap (λ (t : List ℕ). u ++ t) n.word.split) n.blank n.is_run f (longest_found w))

place_term : {s : List ℕ} {i a e : ℕ} {u w : List ℕ} {x : Said} → NextRun s i a e u w → length s ≤ most_bytes → i ≤ length s → TermText w x
    → TermAnswers s i (term e (record { place = a; said = x }))
place_term {s} {i} {a} {e} {u} {w} {x} n h k d =
    let q : e ≡ i + (length u + length w) = omega (arith, n.spaces.size, n.word.size) in
    subst (λ (p : ℕ). TermAnswers s i (term p (record { place = a; said = x }))) (sym q)
    (subst (λ (p : ℕ). TermAnswers s i (term (i + (length u + length w)) (record { place = p; said = x }))) (sym n.spaces.size)
    (produced u w (drop e s) h k (n.spaces.split ∙ ap (λ (t : List ℕ). u ++ t) n.word.split) n.blank n.is_run d))

view_answers : (s : List ℕ) (i : ℕ) → length s ≤ most_bytes → i ≤ length s → {x : TermAnswer} → View s i x → ReadsTerm s i (point_term s x)
unfolding point_term
view_answers s i h k (View.only_spaces m) = only_spaces h k m
view_answers s i h k (View.outside {a = a} {e = e} n q) = place_refused n h k (outside_no_term (part s a e) q)
view_answers s i h k (View.is {a = a} {e = e} {t = t} n q) = place_term n h k (token_sound (part s a e) t q)

-- the two refusals that look at no term
pub read_long : (s : List ℕ) (i : ℕ) → most_bytes < length s → read_term s i ≡ Err (refusal Reason.TooLong 0)
unfolding read_term
read_long s i h = simp (lt-ltb most_bytes (length s) h)

pub read_past : (s : List ℕ) (i : ℕ) → length s ≤ most_bytes → length s < i → read_term s i ≡ Err (refusal Reason.Beyond i)
unfolding read_term
read_past s i h k = simp (le-ltb most_bytes (length s) h, lt-ltb (length s) i k)

pub term_answers : (s : List ℕ) (i : ℕ) → ReadsTerm s i (pointed_term s i)
unfolding point_term pointed
term_answers s i = ⊎_elim
    (λ (h : length s ≤ most_bytes). ⊎_elim
    (λ (k : i ≤ length s). view_answers s i h k (term_view s i h k))
    (λ (k : length s < i). subst (λ (r : TermAnswer). ReadsTerm s i (point_term s r)) (sym (read_past s i h k)) (beyond h k))
    (le_or_lt i (length s)))
    (λ (h : most_bytes < length s). subst (λ (r : TermAnswer). ReadsTerm s i (point_term s r)) (sym (read_long s i h)) (too_long h))
    (le_or_lt (length s) most_bytes)

-- a term that is read, by the productions: after u, and up to the next place
pub record Found (s : List ℕ) (i next : ℕ) (t : Placed) : Type 0 where
  pub u : List ℕ
  pub w : List ℕ
  pub rest : List ℕ
  pub split : drop i s ≡ u ++ (w ++ rest)
  pub run : Run w rest
  pub place_is : t.place ≡ i + length u
  pub next_is : next ≡ i + (length u + length w)
  pub text : TermText w t.said

pub found : (s : List ℕ) (i next : ℕ) (t : Placed) → term_report s (read_term s i) ≡ term next t → Found s i next t
found s i next t e = by (term_answers s i) ((point_kept s (read_term s i) (term next t) (no_refusal next t)).1 e)
  where
    by : {x : TermReport} → TermAnswers s i x → x ≡ term next t → Found s i next t
    by (too_long h) q = absurd (no_refusal next t 30 0 (sym q))
    by (beyond h k) q = absurd (no_refusal next t 34 i (sym q))
    by (only_spaces h k m) q = let z : ◌≡◌ {A = ℕ} 0 1 = cc in absurd (omega arith)
    by (outside u w rest {n = n} h k d m r f l) q = absurd (no_refusal next t 32 (i + length u + n) (sym q))
    by (produced u w rest {x = x} h k d m r f) q =
        let a : i + (length u + length w) ≡ next = cc in
        let b : record { place = i + length u; said = x } ≡ t = cc in
        record {
          u = u;
          w = w;
          rest = rest;
          split = d;
          run = r;
          place_is = sym (ap (λ (y : Placed). y.place) b);
          next_is = sym a;
          text = subst (TermText w) (ap (λ (y : Placed). y.said) b) f;
        }

-- for the reader: what the productions say of an answer determines it, so `TermAnswers` is no weaker than the equation with `pointed_term`
pub term_answers_is : (s : List ℕ) (i : ℕ) (r : TermReport) → TermAnswers s i r → r ≡ term_report s (pointed_term s i)
unfolding token_answer point_term pointed
term_answers_is s i r (too_long h) = simp (read_long s i h)
term_answers_is s i r (beyond h k) = simp (read_past s i h k)
term_answers_is s i r (only_spaces h k m) = simp (read_spaces h (span_rest s i k) m)
term_answers_is s i r (outside u w rest {n = n} h k q m d f l) =
    let g = next_run s i u w rest q m d in
    let e : read_term s i ≡ Err (refusal Reason.Outside (i + length u)) = simp (read_run g h, no_term_outside w f) in
    let p : i + length u + n ≡ pointed s Reason.Outside (i + length u) = ap (λ (k : ℕ). i + length u + k) (longest_one l (longest_found w)) ∙ sym (points g) in
    ap (refused 32) p ∙ ap (λ (x : TermAnswer). term_report s (point_term s x)) (sym e)
term_answers_is s i r (produced u w rest h k q m n d) =
    let g = next_run s i u w rest q m n in
    let o = token_complete d in
    simp (read_run g h, o.read, span_word g.word, o.says)
