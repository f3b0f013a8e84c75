-- The longest beginning of a run with which some term begins, as the code finds it, is that of the productions: `beginnings`. From the laws of Beginnings,
-- that the models' ends are enough, and of Tokens, that a term is what the reader takes for one.
use Rattle.std.proofs.Common.{None, Option, Some}
use Prim.Native.Nat.{ℕ, zero, suc, ◌≤◌, ◌<◌}
use mathlib.Core.Path.{◌≡◌, refl, sym, ap, subst, ◌∙◌}
use mathlib.Core.Logic.{⊎_elim}
use mathlib.Core.List.{List, [], ◌++◌, append_assoc}
use mathlib.Core.Bool.{Bool, true, false}
use native.Mathlib.Omega.{arith}
use lib.ListN.{length, take, drop, take-append-drop}
use lib.Seq.{take-take, take_at}
use Rattle.text.proofs.Laws.Tests.{cond-elim, or_elim, or_left, or_right, true_false, test_fails}
use Rattle.text.proofs.Laws.Orders.{le_or_lt}
use Rattle.text.proofs.Laws.Fronts.{Completed}
use Rattle.records.specs.Readings.{Said}
use Rattle.records.specs.Grammar.{TermText}
use Rattle.records.specs.Numbers.{said_of}
use Rattle.records.specs.Answers.{Begun, Longest}
use Rattle.records.specs.Reader.{token_of}
use Rattle.records.specs.Beginnings.{models, ending, is_term, some_up_to, begins_term, longest_up_to, longest, Beginnings}
use Rattle.records.proofs.Laws.Tokens.{token_sound, token_complete}
use Rattle.records.proofs.Laws.Endings.{Ending}
use Rattle.records.proofs.Laws.Beginnings.{nothing_begins, term_begins}
use Rattle.records.specs.declared.Term.{Term}

-- a test that holds at some place
record At (test : ℕ → Bool) (n : ℕ) : Type 0 where
  place : ℕ
  inside : place ≤ n
  holds : test place ≡ true

some_place : (test : ℕ → Bool) (n : ℕ) → some_up_to test n ≡ true → At test n
unfolding some_up_to
some_place test zero h = record { place = zero; inside = omega arith; holds = h }
some_place test (suc n) h = or_elim (test (suc n)) (some_up_to test n) h
    (λ k. record { place = suc n; inside = omega arith; holds = k })
    (λ k. let s = some_place test n k in record { place = s.place; inside = omega (arith, s.inside); holds = s.holds })

some_holds : (test : ℕ → Bool) (n i : ℕ) → i ≤ n → test i ≡ true → some_up_to test n ≡ true
unfolding some_up_to
some_holds test zero i h k = subst (λ (j : ℕ). test j ≡ true) (omega arith) k
some_holds test (suc n) i h k = ⊎_elim
    (λ (g : i ≤ n). or_right (test (suc n)) (some_up_to test n) (some_holds test n i g k))
    (λ (g : n < i). or_left (test (suc n)) (some_up_to test n) (subst (λ (j : ℕ). test j ≡ true) (omega arith) k))
    (le_or_lt i n)

-- a term is what the reader takes for one
term_of : (w : List ℕ) (t : Option Term) → token_of w ≡ t → is_term t ≡ true → (x : Said) × TermText w x
unfolding is_term
term_of w (Some t) q h = (said_of w t, token_sound w t q)
term_of w None q h = let z : ◌≡◌ {A = ℕ} 0 1 = cc in absurd (omega arith)

is_term_lem : {w : List ℕ} {x : Said} → TermText w x → is_term (token_of w) ≡ true
unfolding is_term
is_term_lem d = ap is_term (token_complete d).read

begins_begun : (p : List ℕ) → begins_term p ≡ true → Begun p
unfolding begins_term
begins_begun p h =
    let s = some_place (λ i. is_term (token_of (p ++ ending models i))) (length models) h in
    let c = ending models s.place in
    (c, term_of (p ++ c) (token_of (p ++ c)) refl s.holds)

-- an end at a place that makes a term, and none that does
pub some_begins : (p : List ℕ) (i : ℕ) → i ≤ length models → is_term (token_of (p ++ ending models i)) ≡ true → begins_term p ≡ true
unfolding begins_term
some_begins p i h k = some_holds (λ j. is_term (token_of (p ++ ending models j))) (length models) i h k

pub none_begins : (p : List ℕ) → ((i : ℕ) → i ≤ length models → is_term (token_of (p ++ ending models i)) ≡ false) → begins_term p ≡ false
unfolding begins_term
none_begins p h = test_fails _ (λ e.
    let s = some_place (λ i. is_term (token_of (p ++ ending models i))) (length models) e in
    true_false (is_term (token_of (p ++ ending models s.place))) s.holds (h s.place s.inside))

begun_begins : (p : List ℕ) → Begun p → begins_term p ≡ true
begun_begins p b =
    let c : Completed Ending TermText p = subst (Completed Ending TermText) (take_at p b.0 (length p) refl) (term_begins b.1.1 (length p)) in
    let e = c.is_end in
    some_begins p e.place e.inside (subst (λ (d : List ℕ). is_term (token_of (p ++ d)) ≡ true) (sym e.is) (is_term_lem c.made))

-- beginnings are closed downward
downward : (p q : List ℕ) → Begun (p ++ q) → Begun p
downward p q b = (q ++ b.0, (b.1.0, subst (λ (w : List ℕ). TermText w b.1.0) (append_assoc p q b.0) b.1.1))

pub shorter_begins : (n m : ℕ) (w : List ℕ) → n ≤ m → begins_term (take m w) ≡ true → begins_term (take n w) ≡ true
shorter_begins n m w h b =
    let s : take m w ≡ take n w ++ drop n (take m w) = sym (take-append-drop n (take m w)) ∙ rw (take-take n m w h) in
    begun_begins (take n w) (downward (take n w) (drop n (take m w)) (subst Begun s (begins_begun (take m w) b)))

-- the longest of the fronts up to n
record LongestUpTo (w : List ℕ) (n r : ℕ) : Type 0 where
  inside : r ≤ n
  begins : begins_term (take r w) ≡ true
  most : (m : ℕ) → m ≤ n → begins_term (take m w) ≡ true → m ≤ r

up_to : (w : List ℕ) → begins_term [] ≡ true → (n : ℕ) → LongestUpTo w n (longest_up_to w n)
unfolding longest_up_to
up_to w h zero = record { inside = omega arith; begins = h; most = λ m k b. k }
up_to w h (suc n) = cond-elim (LongestUpTo w (suc n)) (begins_term (take (suc n) w))
    (λ b. record { inside = omega arith; begins = b; most = λ m k c. k })
    (λ b.
    let r = up_to w h n in
    record {
      inside = omega (arith, r.inside);
      begins = r.begins;
      most = λ m k c. ⊎_elim
          (λ (g : m ≤ n). r.most m g c)
          (λ (g : n < m).
          let e : m ≡ suc n = omega arith in
          absurd (true_false (begins_term (take (suc n) w)) (subst (λ (j : ℕ). begins_term (take j w) ≡ true) e c) b))
          (le_or_lt m n);
    })

-- every term begins with nothing
pub empty_begins : begins_term [] ≡ true
empty_begins = begun_begins [] (nothing_begins.end, (nothing_begins.value, nothing_begins.made))

pub longest_found : (w : List ℕ) → Longest w (longest w)
longest_found w =
    let r = up_to w empty_begins (length w) in
    record {
      inside = r.inside;
      begins = begins_begun (take (longest w) w) r.begins;
      most = λ m h b. r.most m h (begun_begins (take m w) b);
    }

pub beginnings : Beginnings
beginnings = record {
  downward = downward;
  decided = λ p. (begins_begun p, begun_begins p);
  found = longest_found;
}

-- a run has one longest beginning
pub longest_one : {w : List ℕ} {n m : ℕ} → Longest w n → Longest w m → n ≡ m
longest_one {w} {n} {m} a b = omega (arith, a.most m b.inside b.begins, b.most n a.inside a.begins)

-- what halving finds: n bytes are begun, n + 1 are not
pub longest_halved : (w : List ℕ) (n beyond : ℕ) → n ≤ length w → begins_term (take n w) ≡ true → beyond ≤ suc n
    → ((m : ℕ) → beyond ≤ m → m ≤ length w → begins_term (take m w) ≡ false) → n ≡ longest w
longest_halved w n beyond h b l f = longest_one (record {
  inside = h;
  begins = begins_begun (take n w) b;
  most = λ m k c. ⊎_elim
      (λ (g : m ≤ n). g)
      (λ (g : n < m). absurd (true_false (begins_term (take m w)) (begun_begins (take m w) c) (f m (omega arith) k)))
      (le_or_lt m n);
}) (longest_found w)
