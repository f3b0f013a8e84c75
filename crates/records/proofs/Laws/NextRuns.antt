-- From a place on, spaces and then a run of non-spaces: as the productions have them, and as the reader finds them. From the laws of runs.
use Rattle.records.specs.declared.Reason.{Reason}
use Rattle.records.specs.Numbers.{TermAnswer, term_at, refusal}
use Rattle.std.proofs.Common.{None, Option, Some, Ok, Err}
use Prim.Native.Nat.{ℕ, ◌+◌, ◌≤◌, ◌<◌}
use mathlib.Core.Path.{◌≡◌, refl, sym, ap, subst, ◌∙◌}
use mathlib.Core.Logic.{inl, inr, ⊎_elim}
use mathlib.Core.List.{List, [], ◌∷◌, ◌++◌}
use mathlib.Core.Bool.{true, false, not}
use native.Mathlib.Omega.{arith}
use native.Mathlib.Nat.{add-zero, add_assoc}
use lib.ListN.{length, drop, length-drop, length-append, drop_of_length-le}
use lib.Seq.{get_or-drop, drop-drop, drop-append_seam}
use lib.Dec.{eqb}
use borrow.Author.Tests.{le-ltb, eq-eqb, ne_eqb, eqb-true, eqb-false, not-true, not-false}
use Rattle.text.specs.Bytes.{at, part, is_space, is_not_space}
use Rattle.text.specs.Lists.{all}
use Rattle.text.specs.Runs.{is_in, run, run_end}
use Rattle.text.specs.declared.bytes.Class.TheVariants.{Space, NotSpace}
use Rattle.text.proofs.Laws.Tests.{cond-elim, and_left, and_right}
use Rattle.text.proofs.Laws.Orders.{le_or_lt}
use Rattle.text.proofs.Laws.Spans.{Span, span_at, span_word, rest_part}
use Rattle.text.proofs.Laws.Runs.{run_nil, run_zero, run_span, run_span_all, span_run, span_run_end, run_end_from, run_end_inside, run_end_next, run_up_to, run_end_stops}
use Rattle.text.proofs.Laws.Classes.{class_tests, space_is}
use Rattle.records.specs.Answers.{most_bytes, Boundary, Run}
use Rattle.records.specs.Reader.{token_of, token_answer, term_from, read_term}
use Rattle.records.specs.declared.Term.{Term}

pub record NextRun (s : List ℕ) (i a e : ℕ) (u w : List ℕ) : Type 0 where
  pub spaces : Span s i a u
  pub blank : all is_space u ≡ true
  pub word : Span s a e w
  pub is_run : Run w (drop e s)

not_space_32 : is_in NotSpace 32 ≡ false
unfolding is_in is_not_space
not_space_32 = refl

-- each byte is a space or none
other_class : (b : ℕ) → is_in Space b ≡ false → is_in NotSpace b ≡ true
unfolding is_in is_space is_not_space
other_class b h = ap not h

one_class : (b : ℕ) → is_not_space b ≡ true → is_in Space b ≡ false
unfolding is_in is_space is_not_space
one_class b h = not-true (eqb b 32) h

space_left : (b : ℕ) → is_in NotSpace b ≡ false → b ≡ 32
unfolding is_in is_not_space
space_left b h = eqb-true b 32 (not-false (eqb b 32) h)

boundary_run : (rest : List ℕ) → Boundary rest → run (is_in NotSpace) rest ≡ 0
boundary_run rest b = ⊎_elim
    (λ (e : rest ≡ []). ap (run (is_in NotSpace)) e ∙ run_nil (is_in NotSpace))
    (λ (e : at rest 0 ≡ 32). run_zero (is_in NotSpace) rest (ap (is_in NotSpace) e ∙ not_space_32)) b

-- a run begins with no space
solid_first : (w : List ℕ) → all is_not_space w ≡ true → 0 < length w → (s : List ℕ) (a e : ℕ) → Span s a e w → is_in Space (at s a) ≡ false
unfolding all
solid_first [] m k s a e p = absurd (omega arith)
solid_first (x ∷ w) m k s a e p = ap (is_in Space) (span_at p) ∙ one_class x (and_left (is_not_space x) (all is_not_space w) m)

-- what the reader finds where the run stands
module _ {s : List ℕ} {i a e : ℕ} {u w : List ℕ} (n : NextRun s i a e u w) where
  pub run_first : is_in Space (at s a) ≡ false
  run_first = solid_first w n.is_run.solid n.is_run.some s a e n.word

  pub run_forward : (i ≤ a) × (a < e) × (e ≤ length s)
  run_forward =
      let l = simp length-append at (ap length n.word.split) in (
        omega (arith, n.spaces.size),
        omega (arith, n.word.size, n.is_run.some),
        omega (arith, l, length-drop a s, length-drop e s, n.word.size, n.is_run.some),
      )

  pub spaces_end : run_end (is_in Space) s i ≡ a
  spaces_end = span_run (is_in Space) n.spaces (class_tests Space u ∙ n.blank) run_first

  pub word_end_lem : run_end (is_in NotSpace) s a ≡ e
  word_end_lem = run_up_to (is_in NotSpace) n.word (class_tests NotSpace w ∙ n.is_run.solid) (boundary_run (drop e s) n.is_run.ends)

  pub read_run : length s ≤ most_bytes → read_term s i ≡ token_answer a e (token_of w)
  unfolding read_term term_from
  read_run h =
      let f = run_forward in
      simp (le-ltb most_bytes (length s) h, le-ltb (length s) i (omega arith), spaces_end, word_end_lem, span_word n.word, ne_eqb a (length s) (omega arith))

-- only spaces left
pub read_spaces : {s : List ℕ} {i : ℕ} {u : List ℕ} → length s ≤ most_bytes → Span s i (length s) u → all is_space u ≡ true → read_term s i ≡ Ok None
unfolding read_term term_from
read_spaces {s} {i} {u} h p m =
    simp (le-ltb most_bytes (length s) h, le-ltb (length s) i (omega (arith, p.size)), span_run_end (is_in Space) p (class_tests Space u ∙ m), eq-eqb (length s) (length s) refl)

-- the run that the reader finds, with a the first place of no space and e the run's end
run_of : (s : List ℕ) (i a e : ℕ) → a ≡ run_end (is_in Space) s i → e ≡ run_end (is_in NotSpace) s a → a < length s → NextRun s i a e (part s i a) (part s a e)
run_of s i a e p q h =
    let g : Span s i a (part s i a) = subst (λ (k : ℕ). Span s i k (part s i k)) (sym p) (run_span (is_in Space) s i) in
    let v : Span s a e (part s a e) = subst (λ (k : ℕ). Span s a k (part s a k)) (sym q) (run_span (is_in NotSpace) s a) in
    let c : is_in NotSpace (at s a) ≡ true = other_class (at s a) (subst (λ (k : ℕ). is_in Space (at s k) ≡ false) (sym p) (run_end_stops (is_in Space) s i (omega arith))) in
    record {
      spaces = g;
      blank = sym (class_tests Space (part s i a)) ∙ (subst (λ (k : ℕ). all (is_in Space) (part s i k) ≡ true) (sym p) (run_span_all (is_in Space) s i));
      word = v;
      is_run = record {
        some = omega (arith, v.size, run_end_next (is_in NotSpace) s a h c, run_end_from (is_in NotSpace) s (a + 1));
        solid = sym (class_tests NotSpace (part s a e)) ∙ (subst (λ (k : ℕ). all (is_in NotSpace) (part s a k) ≡ true) (sym q) (run_span_all (is_in NotSpace) s a));
        ends = ⊎_elim
            (λ (l : length s ≤ e). inl (drop_of_length-le s l))
            (λ (l : e < length s). inr (get_or-drop e s 0 0 ∙ simp add-zero (space_left (at s e) (subst (λ (k : ℕ). is_in NotSpace (at s k) ≡ false) (sym q) (run_end_stops (is_in NotSpace) s a (omega arith))))))
            (le_or_lt (length s) e);
      };
    }

-- where a space or the end stands first, there is a space before the run
pub record Gap (s : List ℕ) (i a e : ℕ) (w : List ℕ) : Type 0 where
  pub gap : List ℕ
  pub next : NextRun s i a e (32 ∷ gap) w
  pub blank : all is_space gap ≡ true

not_first : (b : ℕ) → b ≡ 32 → is_in Space b ≡ false → ⊥
unfolding is_in is_space
not_first b h q = let z : ◌≡◌ {A = ℕ} 0 1 = cc (eq-eqb b 32 h) in omega arith

pub gap_of : {s : List ℕ} {i a e : ℕ} {u w : List ℕ} → NextRun s i a e u w → Boundary (drop i s) → Gap s i a e w
unfolding all
gap_of {s} {i} {a} {e} {u = []} {w} n b =
    let f = run_forward n in
    let q : a ≡ i = omega (arith, n.spaces.size) in
    absurd (⊎_elim
    (λ (h : drop i s ≡ []). omega (arith, ap length h, length-drop i s))
    (λ (h : at (drop i s) 0 ≡ 32). not_first (at s a) (ap (at s) q ∙ sym (simp add-zero at (get_or-drop i s 0 0)) ∙ h) (run_first n))
    b)
gap_of {s} {i} {a} {e} {u = x ∷ g} {w} n b = record {
  gap = g;
  next = subst (λ (y : ℕ). NextRun s i a e (y ∷ g) w) (space_is x (and_left (is_space x) (all is_space g) n.blank)) n;
  blank = and_right (is_space x) (all is_space g) n.blank;
}

-- what reading a term answers, for a place inside
pub data View (s : List ℕ) (i : ℕ) : TermAnswer → Type 0 where
  only_spaces : all is_space (drop i s) ≡ true → View s i (Ok None)
  outside : {a e : ℕ} {u : List ℕ} → NextRun s i a e u (part s a e) → token_of (part s a e) ≡ None → View s i (Err (refusal Reason.Outside a))
  is : {a e : ℕ} {u : List ℕ} {t : Term} → NextRun s i a e u (part s a e) → token_of (part s a e) ≡ Some t → View s i (term_at a e t)

view_token : (s : List ℕ) (i a e : ℕ) → NextRun s i a e (part s i a) (part s a e) → (t : Option Term) → token_of (part s a e) ≡ t → View s i (token_answer a e t)
unfolding token_answer
view_token s i a e n (Some t) q = is n q
view_token s i a e n None q = outside n q

pub term_view : (s : List ℕ) (i : ℕ) → length s ≤ most_bytes → i ≤ length s → View s i (read_term s i)
unfolding read_term term_from
term_view s i h k =
    simp (le-ltb most_bytes (length s) h, le-ltb (length s) i k)
    (cond-elim (View s i) (eqb (run_end (is_in Space) s i) (length s))
    (λ q. only_spaces (sym (class_tests Space (drop i s)) ∙ (simp (eqb-true (run_end (is_in Space) s i) (length s) q, rest_part) at (run_span_all (is_in Space) s i))))
    (λ q.
    let d = eqb-false (run_end (is_in Space) s i) (length s) q in
    view_token s i (run_end (is_in Space) s i) (run_end (is_in NotSpace) s (run_end (is_in Space) s i))
    (run_of s i _ _ refl refl (omega (arith, run_end_inside (is_in Space) s i k))) _ refl))

-- spaces at a list's front, cut off by what follows
pub next_run : (s : List ℕ) (i : ℕ) (u w rest : List ℕ) → drop i s ≡ u ++ (w ++ rest) → all is_space u ≡ true → Run w rest
    → NextRun s i (i + length u) (i + (length u + length w)) u w
next_run s i u w rest q m r =
    let d : drop (i + length u) s ≡ w ++ rest = sym (drop-drop (length u) i s) ∙ ap (drop (length u)) q ∙ drop-append_seam u (w ++ rest) in
    let f : drop (i + length u + length w) s ≡ rest = sym (drop-drop (length w) (i + length u) s) ∙ ap (drop (length w)) d ∙ drop-append_seam w rest in
    let g : drop (i + (length u + length w)) s ≡ rest = simp (← add_assoc) f in
    record {
      spaces = record { split = q ∙ ap (λ (t : List ℕ). u ++ t) (sym d); size = refl };
      blank = m;
      word = record { split = d ∙ ap (λ (t : List ℕ). w ++ t) (sym g); size = omega arith };
      is_run = subst (Run w) (sym g) r;
    }
