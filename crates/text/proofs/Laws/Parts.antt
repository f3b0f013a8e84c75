-- Tests of every element and the first that fails one, the last element, and the right-most elements of a list. From the definitions of
-- Lists.
use Prim.Native.Nat.{ℕ, zero, suc, ◌-◌, ◌≤◌, ◌<◌}
use native.Mathlib.Omega.{arith}
use mathlib.Core.Path.{◌≡◌, refl, sym, ap, ◌∙◌}
use mathlib.Core.Logic.{⊎_elim}
use mathlib.Core.List.{List, [], ◌∷◌, ◌++◌, map, reverse, reverse-append}
use mathlib.Core.Bool.{Bool, true, false, ◌&&◌}
use lib.ListN.{length, take, drop, length-append, length-take, length-reverse, take-append-drop, drop_of_length-le}
use lib.Seq.{take_all, drop_at, get_or_at}
use Rattle.text.specs.Bytes.{at}
use Rattle.text.specs.Lists.{all, rightmost}
use Rattle.text.proofs.Laws.Orders.{le_or_lt}
use Rattle.text.proofs.Laws.Tests.{and_left, and_right, and_both, and_between, test_fails, true_false}

-- a test that a map keeps
pub all_map : {A : Type 0} (p : A → Bool) (f : A → A) → ((x : A) → p (f x) ≡ p x) → (xs : List A) → all p (map f xs) ≡ all p xs
unfolding all
all_map p f h [] = refl
all_map p f h (x ∷ xs) = rw (h x, all_map p f h xs)

-- two tests that are one together
pub all_both : {A : Type 0} (p q r : A → Bool) → ((x : A) → (p x && q x) ≡ r x) → (xs : List A) → (all p xs && all q xs) ≡ all r xs
unfolding all
all_both p q r h [] = refl
all_both p q r h (x ∷ xs) = and_between (p x) (all p xs) (q x) (all q xs) ∙ rw (h x, all_both p q r h xs)

-- a test of two lists together
pub all_append : {A : Type 0} (p : A → Bool) (xs ys : List A) → all p (xs ++ ys) ≡ (all p xs && all p ys)
unfolding all
all_append p [] ys = refl
all_append p (x ∷ xs) ys = by (p x) (all_append p xs ys)
  where
    by : (t : Bool) → all p (xs ++ ys) ≡ (all p xs && all p ys) → (t && all p (xs ++ ys)) ≡ ((t && all p xs) && all p ys)
    by true ih = ih
    by false ih = refl

module _ {A : Type 0} (p : A → Bool) where
  pub all_none : all p [] ≡ true
  unfolding all
  all_none = refl

  pub all_join : (u w : List A) → all p u ≡ true → all p w ≡ true → all p (u ++ w) ≡ true
  all_join u w hu hw = all_append p u w ∙ and_both (all p u) (all p w) hu hw

  pub all_front : (u w : List A) → all p (u ++ w) ≡ true → all p u ≡ true
  all_front u w h = and_left (all p u) (all p w) (sym (all_append p u w) ∙ h)

  pub all_back : (u w : List A) → all p (u ++ w) ≡ true → all p w ≡ true
  all_back u w h = and_right (all p u) (all p w) (sym (all_append p u w) ∙ h)

  pub all_cons : (b : A) (w : List A) → p b ≡ true → all p w ≡ true → all p (b ∷ w) ≡ true
  unfolding all
  all_cons b w hb hw = and_both (p b) (all p w) hb hw

  pub all_first : (b : A) (w : List A) → all p (b ∷ w) ≡ true → p b ≡ true
  unfolding all
  all_first b w h = and_left (p b) (all p w) h

  pub all_rest : (b : A) (w : List A) → all p (b ∷ w) ≡ true → all p w ≡ true
  unfolding all
  all_rest b w h = and_right (p b) (all p w) h

  -- two lists with an element between them
  pub all_join_by : (u : List A) (b : A) (w : List A) → all p u ≡ true → p b ≡ true → all p w ≡ true → all p (u ++ (b ∷ w)) ≡ true
  all_join_by u b w hu hb hw = all_join u (b ∷ w) hu (all_cons b w hb hw)

  pub all_between : (u : List A) (b : A) (w : List A) → all p (u ++ (b ∷ w)) ≡ true → p b ≡ true
  all_between u b w h = all_first b w (all_back u (b ∷ w) h)

  -- one element that fails
  pub one_fails : (u : List A) (b : A) (w : List A) → p b ≡ false → all p (u ++ (b ∷ w)) ≡ false
  one_fails u b w h = test_fails (all p (u ++ (b ∷ w))) (λ e. true_false (p b) (all_between u b w e) h)

  -- the first element that fails
  pub record FirstFailing (l : List A) : Type 0 where
    pub before : List A
    pub element : A
    pub after : List A
    pub parts : l ≡ before ++ (element ∷ after)
    pub holds : all p before ≡ true
    pub fails : p element ≡ false

  pub first_failing : (l : List A) → all p l ≡ false → FirstFailing l
  unfolding all
  first_failing [] h = absurd (true_false true refl h)
  first_failing (x ∷ xs) h = by (p x) refl (first_failing xs) h
    where
      by : (t : Bool) → p x ≡ t → (all p xs ≡ false → FirstFailing xs) → (t && all p xs) ≡ false → FirstFailing (x ∷ xs)
      by true e ih k = let f = ih k in
          record { before = x ∷ f.before; element = f.element; after = f.after; parts = ap (λ (t : List A). x ∷ t) f.parts; holds = and_both (p x) (all p f.before) e f.holds; fails = f.fails }
      by false e ih k = record { before = []; element = x; after = xs; parts = refl; holds = refl; fails = e }

-- a test inside another
pub all_inside : {A : Type 0} (p q : A → Bool) → ((b : A) → p b ≡ true → q b ≡ true) → (l : List A) → all p l ≡ true → all q l ≡ true
all_inside p q f [] h = all_none q
all_inside p q f (x ∷ xs) h = all_cons q x xs (f x (all_first p x xs h)) (all_inside p q f xs (all_rest p x xs h))

-- a byte of a list of which all pass
pub all_at_lem : (p : ℕ → Bool) (s : List ℕ) (i : ℕ) → i < length s → all p s ≡ true → p (at s i) ≡ true
all_at_lem p [] i h a = absurd (omega arith)
all_at_lem p (x ∷ xs) zero h a = all_first p x xs a
all_at_lem p (x ∷ xs) (suc i) h a = all_at_lem p xs i (omega arith) (all_rest p x xs a)

-- the last element
pub at_last : (xs : List ℕ) (z : ℕ) → at (xs ++ (z ∷ [])) (length (xs ++ (z ∷ [])) - 1) ≡ z
at_last xs z = get_or_at xs z [] 0 (length (xs ++ (z ∷ [])) - 1) (omega (arith, length-append xs (z ∷ [])))

pub data Last : List ℕ → Type 0 where
  empty : Last []
  snoc : (w : List ℕ) (z : ℕ) → Last (w ++ (z ∷ []))

pub last_of : (l : List ℕ) → Last l
last_of [] = empty
last_of (x ∷ xs) = go (last_of xs)
  where
    go : {ys : List ℕ} → Last ys → Last (x ∷ ys)
    go empty = snoc [] x
    go (snoc w z) = snoc (x ∷ w) z

-- the right-most elements
module _ {A : Type 0} (n : ℕ) where
  pub rightmost_none : n ≡ 0 → (xs : List A) → rightmost n xs ≡ []
  unfolding rightmost
  rightmost_none h xs = drop_of_length-le xs {i = length xs - n} (omega arith)

  pub rightmost_all : (xs : List A) → length xs ≤ n → rightmost n xs ≡ xs
  unfolding rightmost
  rightmost_all xs h = let e : length xs - n ≡ 0 = omega arith in rw e

  pub rightmost_append : (xs ys : List A) → length ys ≡ n → rightmost n (xs ++ ys) ≡ ys
  unfolding rightmost
  rightmost_append xs ys h = drop_at xs ys (length (xs ++ ys) - n) (simp length-append (omega arith))

  pub rightmost_reverse : (xs : List A) → rightmost n (reverse xs) ≡ reverse (take n xs)
  rightmost_reverse xs = ⊎_elim
      (λ (h : n ≤ length xs).
      ap (rightmost n) (ap reverse (sym (take-append-drop n xs)) ∙ reverse-append (take n xs) (drop n xs))
      ∙ rightmost_append (reverse (drop n xs)) (reverse (take n xs)) (simp (length-reverse, length-take) (omega arith)))
      (λ (h : length xs < n). rw (take_all n xs (omega arith)) (rightmost_all (reverse xs) (simp length-reverse (omega arith))))
      (le_or_lt n (length xs))
