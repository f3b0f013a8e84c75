-- Longest runs of a class: as a loop finds them, their bounds, their bytes, and a test of every byte as a run to the end. From the definitions
-- of Runs; `p` is the class.
use Prim.Native.Nat.{ℕ, zero, suc, ◌+◌, ◌-◌, ◌≤◌, ◌<◌, max}
use mathlib.Core.Path.{◌≡◌, refl, sym, ap, ◌∙◌}
use mathlib.Core.Logic.{⊎_elim}
use mathlib.Core.List.{List, [], ◌∷◌, ◌++◌}
use mathlib.Core.Bool.{Bool, true, false, cond, ◌&&◌}
use native.Mathlib.Omega.{arith}
use native.Mathlib.Numerals.{add-one}
use native.Mathlib.Nat.{add-zero, zero-add, add-sub_cancel_left}
use lib.ListN.{length, get_or, take, drop, drop_of_length-le, length-drop}
use lib.Seq.{drop-cons, drop-length, get_or-drop}
use lib.Dec.{eqb, eqb-suc-suc, eqb-zero-suc}
use Rattle.text.specs.Bytes.{at}
use Rattle.text.specs.Lists.{all}
use Rattle.text.specs.Runs.{run, run_end, trailing_start}
use Rattle.text.proofs.Laws.Tests.{cond-elim, and_both}
use Rattle.text.proofs.Laws.Orders.{le_or_lt}
use Rattle.text.proofs.Laws.Parts.{all_at_lem}
use Rattle.text.proofs.Laws.Spans.{Span, span_take, drop_before}

module _ (p : ℕ → Bool) where
  pub run_nil : run p [] ≡ 0
  unfolding run
  run_nil = refl

  pub run_cons : (x : ℕ) (xs : List ℕ) → p x ≡ true → run p (x ∷ xs) ≡ suc (run p xs)
  unfolding run
  run_cons x xs h = simp h

  pub run_stop : (x : ℕ) (xs : List ℕ) → p x ≡ false → run p (x ∷ xs) ≡ 0
  unfolding run
  run_stop x xs h = simp h

  pub run_le : (s : List ℕ) → run p s ≤ length s
  unfolding run
  run_le [] = omega arith
  run_le (x ∷ xs) = let h = run_le xs in cond-elim (λ (n : ℕ). n ≤ suc (length xs)) (p x) {x = suc (run p xs)} {y = 0} (λ _. omega arith) (λ _. omega arith)

  run_end_past : (s : List ℕ) (i : ℕ) → length s ≤ i → run_end p s i ≡ i
  unfolding run_end
  run_end_past s i h = simp (drop_of_length-le s h, run_nil, add-zero)

  -- as a loop finds it: one byte further, at an end, and past the list
  module _ (s : List ℕ) (i : ℕ) where
    pub run_end_next : i < length s → p (at s i) ≡ true → run_end p s (i + 1) ≡ run_end p s i
    unfolding run_end
    run_end_next h q = simp (add-one, drop-cons s i 0 h, run_cons (at s i) (drop (suc i) s) q) (omega arith)

    pub run_end_here : i < length s → p (at s i) ≡ false → run_end p s i ≡ i
    unfolding run_end
    run_end_here h q = simp (drop-cons s i 0 h, run_stop (at s i) (drop (suc i) s) q, add-zero)

    pub run_end_out : length s ≤ i → run_end p s i ≡ i
    run_end_out h = run_end_past s i h

    -- the loop of `run_end`, which began at k
    module _ (k : ℕ) (inv : run_end p s i ≡ run_end p s k) where
      pub loop_next : i < length s → (r : Bool) → r ≡ p (at s i) → r ≡ true → run_end p s (i + 1) ≡ run_end p s k
      loop_next h r e q = run_end_next h (sym e ∙ q) ∙ inv

      pub loop_here : i < length s → (r : Bool) → r ≡ p (at s i) → r ≡ false → i ≡ run_end p s k
      loop_here h r e q = sym (run_end_here h (sym e ∙ q)) ∙ inv

      pub loop_out : length s ≤ i → i ≡ run_end p s k
      loop_out h = sym (run_end_out h) ∙ inv

      pub loop_end : length s ≤ i → (k ≤ length s → i ≤ length s) → max k (length s) ≡ run_end p s k
      loop_end h l = ⊎_elim
          (λ (q : k ≤ length s). let e : max k (length s) ≡ i = omega (arith, l q) in e ∙ loop_out h)
          (λ (q : length s < k). let e : max k (length s) ≡ k = omega arith in e ∙ sym (run_end_past s k (omega arith)))
          (le_or_lt k (length s))

    pub run_end_from : i ≤ run_end p s i
    unfolding run_end
    run_end_from = omega arith

    pub run_end_inside : i ≤ length s → run_end p s i ≤ length s
    unfolding run_end
    run_end_inside h = omega (arith, run_le (drop i s), length-drop i s)

  -- the byte after a run isn't of the class, and each byte within it is
  pub run_stops : (s : List ℕ) → run p s < length s → p (at s (run p s)) ≡ false
  unfolding run
  run_stops [] h = absurd (omega arith)
  run_stops (x ∷ xs) h = by (p x) refl (run_stops xs) h
    where
      by : (t : Bool) → p x ≡ t → (run p xs < length xs → p (at xs (run p xs)) ≡ false) → cond t (suc (run p xs)) 0 < suc (length xs)
          → p (at (x ∷ xs) (cond t (suc (run p xs)) 0)) ≡ false
      by true e ih h = ih (omega arith)
      by false e ih h = e

  pub run_end_stops : (s : List ℕ) (i : ℕ) → run_end p s i < length s → p (at s (run_end p s i)) ≡ false
  unfolding run_end
  run_end_stops s i h = ap p (sym (get_or-drop i s (run p (drop i s)) 0)) ∙ run_stops (drop i s) (omega (arith, length-drop i s))

  pub run_within : (s : List ℕ) (i : ℕ) → i < run p s → p (at s i) ≡ true
  unfolding run
  run_within [] i h = absurd (omega arith)
  run_within (x ∷ xs) zero h = cond-elim (λ (n : ℕ). 0 < n → p x ≡ true) (p x) {x = suc (run p xs)} {y = 0} (λ e k. e) (λ e k. absurd (omega arith)) h
  run_within (x ∷ xs) (suc i) h =
      cond-elim (λ (n : ℕ). suc i < n → p (at xs i) ≡ true) (p x) {x = suc (run p xs)} {y = 0} (λ e k. run_within xs i (omega arith)) (λ e k. absurd (omega arith)) h

  -- every byte of a run is of the class
  pub run_all : (s : List ℕ) → all p (take (run p s) s) ≡ true
  unfolding run all
  run_all [] = refl
  run_all (x ∷ xs) = cond-elim (λ (n : ℕ). all p (take n (x ∷ xs)) ≡ true) (p x) {x = suc (run p xs)} {y = 0} (λ h. simp h (run_all xs)) (λ _. refl)

  -- a word of the class, with no byte of the class after it, is the run
  pub all_run : (u rest : List ℕ) → all p u ≡ true → run p rest ≡ 0 → run p (u ++ rest) ≡ length u
  unfolding run all
  all_run [] rest h z = z
  all_run (x ∷ u) rest h z = by (p x) (λ k. all_run u rest k z) h
    where
      by : (t : Bool) → (all p u ≡ true → run p (u ++ rest) ≡ length u) → (t && all p u) ≡ true → cond t (suc (run p (u ++ rest))) 0 ≡ suc (length u)
      by true ih k = ap suc (ih k)
      by false ih k = let e : ◌≡◌ {A = ℕ} 0 1 = cc in omega arith

  -- where no byte of the class follows, the run is 0
  pub run_zero : (s : List ℕ) → p (at s 0) ≡ false → run p s ≡ 0
  run_zero [] h = run_nil
  run_zero (x ∷ xs) h = run_stop x xs h

  -- the run as a word of the list, and back
  pub run_span : (s : List ℕ) (i : ℕ) → Span s i (run_end p s i) (take (run_end p s i - i) (drop i s))
  unfolding run_end
  run_span s i = simp add-sub_cancel_left (span_take s i (run p (drop i s)) (run_le (drop i s)))

  pub run_span_all : (s : List ℕ) (i : ℕ) → all p (take (run_end p s i - i) (drop i s)) ≡ true
  unfolding run_end
  run_span_all s i = simp add-sub_cancel_left (run_all (drop i s))

  pub run_up_to : {s : List ℕ} {i j : ℕ} {u : List ℕ} → Span s i j u → all p u ≡ true → run p (drop j s) ≡ 0 → run_end p s i ≡ j
  unfolding run_end
  run_up_to {s} {i} {j} {u} q m z = simp (q.split, all_run u (drop j s) m z) (sym q.size)

  pub span_run : {s : List ℕ} {i j : ℕ} {u : List ℕ} → Span s i j u → all p u ≡ true → p (at s j) ≡ false → run_end p s i ≡ j
  span_run {s} {i} {j} {u} q m h = run_up_to q m (run_zero (drop j s) (simp (get_or-drop, add-zero) h))

  pub span_run_end : {s : List ℕ} {i : ℕ} {u : List ℕ} → Span s i (length s) u → all p u ≡ true → run_end p s i ≡ length s
  span_run_end {s} {i} {u} q m = run_up_to q m (ap (run p) (drop-length s) ∙ run_nil)

  -- every byte is of the class exactly if the run is the whole list
  pub all_as_run : (s : List ℕ) → all p s ≡ eqb (run p s) (length s)
  unfolding run all
  all_as_run [] = refl
  all_as_run (x ∷ xs) = by (p x) (all_as_run xs)
    where
      step : (m n : ℕ) → eqb m n ≡ eqb (suc m) (suc n)
      step m n = sym (eqb-suc-suc m n)

      by : (t : Bool) → all p xs ≡ eqb (run p xs) (length xs) → (t && all p xs) ≡ eqb (cond t (suc (run p xs)) 0) (suc (length xs))
      by true ih = ih ∙ step (run p xs) (length xs)
      by false ih = sym (eqb-zero-suc (length xs))

  -- `every`
  pub every_is : (s : List ℕ) (e : ℕ) → e ≡ run_end p s 0 → eqb e (length s) ≡ all p s
  unfolding run_end
  every_is s e h = rw (h, zero-add) (sym (all_as_run s))

  -- the trailing run: all from its start on pass, the byte before it doesn't
  pub trailing_all : (s : List ℕ) → all p (drop (trailing_start p s) s) ≡ true
  unfolding trailing_start all
  trailing_all [] = refl
  trailing_all (x ∷ xs) = by (all p (x ∷ xs)) refl (trailing_all xs)
    where
      by : (t : Bool) → all p (x ∷ xs) ≡ t → all p (drop (trailing_start p xs) xs) ≡ true → all p (drop (cond t 0 (suc (trailing_start p xs))) (x ∷ xs)) ≡ true
      by true e ih = e
      by false e ih = ih

  pub trailing_le : (s : List ℕ) → trailing_start p s ≤ length s
  unfolding trailing_start
  trailing_le [] = omega arith
  trailing_le (x ∷ xs) = let h = trailing_le xs in cond-elim (λ (n : ℕ). n ≤ suc (length xs)) (all p (x ∷ xs)) {x = 0} {y = suc (trailing_start p xs)} (λ _. omega arith) (λ _. omega arith)

  -- it is the first such place
  pub trailing_first : (s : List ℕ) (i : ℕ) → all p (drop i s) ≡ true → trailing_start p s ≤ i
  unfolding trailing_start
  trailing_first [] i h = omega arith
  trailing_first (x ∷ xs) zero h = simp h (omega arith)
  trailing_first (x ∷ xs) (suc i) h =
      let k = trailing_first xs i h in
      cond-elim (λ (n : ℕ). n ≤ suc i) (all p (x ∷ xs)) {x = 0} {y = suc (trailing_start p xs)} (λ _. omega arith) (λ _. omega arith)

  -- and the start is known by its two sides
  pub trailing_is : (s : List ℕ) (i : ℕ) → all p (drop i s) ≡ true → ((j : ℕ) → all p (drop j s) ≡ true → i ≤ j) → i ≡ trailing_start p s
  trailing_is s i h k = let a = trailing_first s i h in let b = k (trailing_start p s) (trailing_all s) in omega arith

  -- the loop of `trailing_start`: all from i on pass
  module _ (s : List ℕ) (i : ℕ) (inside : i ≤ length s) (inv : all p (drop i s) ≡ true) where
    pub trailing_next : 0 < i → (r : Bool) → r ≡ p (at s (i - 1)) → r ≡ true → all p (drop (i - 1) s) ≡ true
    unfolding all
    trailing_next h r e q = ap (all p) (drop_before s i h inside) ∙ and_both (p (at s (i - 1))) (all p (drop i s)) (sym e ∙ q) inv

    pub trailing_stop : 0 < i → (r : Bool) → r ≡ p (at s (i - 1)) → r ≡ false → i - 1 + 1 ≡ trailing_start p s
    trailing_stop h r e q = let z : i - 1 + 1 ≡ i = omega arith in z ∙ trailing_is s i inv (λ j a. ⊎_elim (λ (l : i ≤ j). l) (λ (l : j < i). absurd (never j l a)) (le_or_lt i j))
      where
        never : (j : ℕ) → j < i → all p (drop j s) ≡ true → ⊥
        never j l a =
            let f : at s (i - 1) ≡ get_or (drop j s) (i - 1 - j) 0 = sym (get_or-drop j s (i - 1 - j) 0 ∙ ap (λ (n : ℕ). get_or s n 0) (omega arith)) in
            let t : p (get_or (drop j s) (i - 1 - j) 0) ≡ true = all_at_lem p (drop j s) (i - 1 - j) (omega (arith, length-drop j s)) a in
            let z : ◌≡◌ {A = ℕ} 0 1 = cc in
            omega arith

    pub trailing_zero : i ≤ 0 → 0 ≡ trailing_start p s
    trailing_zero h = let e : i ≡ 0 = omega arith in trailing_is s 0 (rw e at inv) (λ j a. omega arith)

  pub trailing_begin : (s : List ℕ) → all p (drop (length s) s) ≡ true
  unfolding all
  trailing_begin s = rw (drop-length s)
