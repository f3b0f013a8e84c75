-- Lists split at delimiters and joined by a separator. From the definitions of Lists; `p` is the test of a delimiter, `c` the separator.
use Prim.Native.Nat.{ℕ, suc, ◌+◌, ◌-◌, ◌≤◌, ◌<◌}
use native.Mathlib.Omega.{arith}
use mathlib.Core.Path.{◌≡◌, refl, sym, ap, subst, ◌∙◌}
use mathlib.Core.List.{List, [], ◌∷◌, ◌++◌, map, append_assoc, append-nil}
use mathlib.Core.Bool.{Bool, true, false, cond, not}
use lib.ListN.{length, take, drop, take-append-drop}
use lib.Seq.{drop-length}
use lib.Dec.{eqb}
use borrow.Author.Tests.{eqb-true}
use Rattle.text.specs.Bytes.{at, is_dot}
use Rattle.text.specs.Lists.{all, split, grow, separator_before, join_by, join}
use Rattle.text.specs.Runs.{run}
use Rattle.text.proofs.Laws.Parts.{all_append}
use Rattle.text.proofs.Laws.Spans.{drop_before}

-- a list of parts with at least one
pub data Some : List (List ℕ) → Type 0 where
  some : {x : List ℕ} {xs : List (List ℕ)} → Some (x ∷ xs)

pub some_count : {xs : List (List ℕ)} → Some xs → 0 < length xs
some_count some = omega arith

pub some_snoc : (xs : List (List ℕ)) (x : List ℕ) → Some (xs ++ (x ∷ []))
some_snoc [] x = some
some_snoc (y ∷ xs) x = some

some_cond : (t : Bool) (b : ℕ) (xs : List (List ℕ)) → Some xs → Some (cond t ([] ∷ xs) (grow b xs))
unfolding grow
some_cond true b xs s = some
some_cond false b (x ∷ xs) some = some
some_cond false b [] s = elim s [ ]

grow_append : (b : ℕ) (xs ys : List (List ℕ)) → Some xs → grow b (xs ++ ys) ≡ grow b xs ++ ys
unfolding grow
grow_append b (x ∷ xs) ys some = refl
grow_append b [] ys x' = elim x' [ ]

join_grow : (c b : ℕ) (xs : List (List ℕ)) → join_by c (grow b xs) ≡ b ∷ join_by c xs
unfolding join_by grow separator_before
join_grow c b [] = refl
join_grow c b (x ∷ xs) = refl

join_empty : (c : ℕ) (xs : List (List ℕ)) → Some xs → join_by c ([] ∷ xs) ≡ c ∷ join_by c xs
unfolding join_by separator_before
join_empty c (x ∷ xs) some = refl
join_empty c [] x' = elim x' [ ]

count_grow : (b : ℕ) (xs : List (List ℕ)) → Some xs → length (grow b xs) ≡ length xs
unfolding grow
count_grow b (x ∷ xs) some = refl
count_grow b [] x' = elim x' [ ]

module _ (p : ℕ → Bool) where
  pub split_some : (s : List ℕ) → Some (split p s)
  unfolding split
  split_some [] = some
  split_some (b ∷ s) = some_cond (p b) b (split p s) (split_some s)

  -- a delimiter parts a list in two
  pub split_append : (xs : List ℕ) (d : ℕ) (ys : List ℕ) → p d ≡ true → split p (xs ++ d ∷ ys) ≡ split p xs ++ split p ys
  unfolding split
  split_append [] d ys e = rw e
  split_append (x ∷ xs) d ys e = rw (split_append xs d ys e) (both (p x))
    where
      both : (t : Bool) → cond t ([] ∷ split p xs ++ split p ys) (grow x (split p xs ++ split p ys)) ≡ cond t ([] ∷ split p xs) (grow x (split p xs)) ++ split p ys
      both true = refl
      both false = grow_append x (split p xs) (split p ys) (split_some xs)

  -- joined again, a list has separators for its delimiters
  pub join_split : (c : ℕ) (s : List ℕ) → join_by c (split p s) ≡ map (λ b. cond (p b) c b) s
  unfolding split join_by separator_before
  join_split c [] = refl
  join_split c (b ∷ s) = by (p b) (join_split c s)
    where
      by : (t : Bool) → join_by c (split p s) ≡ map (λ b. cond (p b) c b) s → join_by c (cond t ([] ∷ split p s) (grow b (split p s))) ≡ cond t c b ∷ map (λ b. cond (p b) c b) s
      by true ih = rw (join_empty c (split p s) (split_some s), ih)
      by false ih = rw (join_grow c b (split p s), ih)

  -- by the run of bytes before the first delimiter
  abbrev pub front : List ℕ → ℕ
  front s = run (λ b. not (p b)) s

  pub split_none : (s : List ℕ) → length s ≤ front s → split p s ≡ s ∷ []
  unfolding run split grow
  split_none [] h = refl
  split_none (b ∷ s) h = by (p b) (split_none s) h
    where
      by : (t : Bool) → (length s ≤ front s → split p s ≡ s ∷ []) → suc (length s) ≤ cond (not t) (suc (front s)) 0 → cond t ([] ∷ split p s) (grow b (split p s)) ≡ (b ∷ s) ∷ []
      by true ih h = absurd (omega arith)
      by false ih h = rw (ih (omega arith))

  pub split_first : (s : List ℕ) → front s < length s → split p s ≡ take (front s) s ∷ split p (drop (suc (front s)) s)
  unfolding run split grow
  split_first [] h = absurd (omega arith)
  split_first (b ∷ s) h = by (p b) (split_first s) h
    where
      by : (t : Bool) → (front s < length s → split p s ≡ take (front s) s ∷ split p (drop (suc (front s)) s)) → cond (not t) (suc (front s)) 0 < suc (length s)
          → cond t ([] ∷ split p s) (grow b (split p s)) ≡ take (cond (not t) (suc (front s)) 0) (b ∷ s) ∷ split p (drop (suc (cond (not t) (suc (front s)) 0)) (b ∷ s))
      by true ih h = refl
      by false ih h = rw (ih (omega arith))

  -- before the first delimiter there is none
  pub split_before : (s : List ℕ) → split p (take (front s) s) ≡ take (front s) s ∷ []
  unfolding run split grow
  split_before [] = refl
  split_before (b ∷ s) = by (p b) refl (split_before s)
    where
      by : (t : Bool) → p b ≡ t → split p (take (front s) s) ≡ take (front s) s ∷ []
          → split p (take (cond (not t) (suc (front s)) 0) (b ∷ s)) ≡ take (cond (not t) (suc (front s)) 0) (b ∷ s) ∷ []
      by true e ih = refl
      by false e ih = rw (e, ih)

  -- the count of parts
  pub count_in : (d : ℕ) (s : List ℕ) → p d ≡ true → length (split p (d ∷ s)) ≡ suc (length (split p s))
  unfolding split
  count_in d s e = rw e

  pub count_out : (b : ℕ) (s : List ℕ) → p b ≡ false → length (split p (b ∷ s)) ≡ length (split p s)
  unfolding split
  count_out b s e = rw e (count_grow b (split p s) (split_some s))

  -- at most one part more than bytes
  pub count_le : (s : List ℕ) → length (split p s) ≤ length s + 1
  unfolding split
  count_le [] = omega arith
  count_le (b ∷ s) = by (p b) refl (count_le s)
    where
      by : (t : Bool) → p b ≡ t → length (split p s) ≤ length s + 1 → length (split p (b ∷ s)) ≤ suc (length s) + 1
      by true e ih = omega (arith, count_in b s e)
      by false e ih = omega (arith, count_out b s e)

-- as a loop finds the last part, from the right: from i on there is no delimiter
module _ (p : ℕ → Bool) (s : List ℕ) where
  pub record Undelimited (i : ℕ) : Type 0 where
    pub within : i ≤ length s
    pub one : split p (drop i s) ≡ drop i s ∷ []

  pub undelimited_start : Undelimited (length s)
  unfolding split
  undelimited_start = record { within = omega arith; one = rw drop-length }

  module _ (i : ℕ) (inv : Undelimited i) where
    pub undelimited_next : 0 < i → p (at s (i - 1)) ≡ false → Undelimited (i - 1)
    unfolding split grow
    undelimited_next h n = record { within = omega (arith, inv.within); one = rw (drop_before s i h inv.within, n, inv.one) }

    pub undelimited_last : 0 < i → p (at s (i - 1)) ≡ true → split p s ≡ split p (take (i - 1) s) ++ (drop i s ∷ [])
    undelimited_last h n =
        ap (split p) (sym (take-append-drop (i - 1) s) ∙ ap (λ (t : List ℕ). take (i - 1) s ++ t) (drop_before s i h inv.within))
        ∙ split_append p (take (i - 1) s) (at s (i - 1)) (drop i s) n
        ∙ ap (λ (t : List (List ℕ)). split p (take (i - 1) s) ++ t) inv.one

    pub undelimited_whole : i ≤ 0 → split p s ≡ s ∷ []
    undelimited_whole h = let e : i ≡ 0 = omega arith in subst (λ (k : ℕ). split p (drop k s) ≡ drop k s ∷ []) e inv.one

-- joined with more parts at the end
module _ (c : ℕ) where
  before_append : (xs ys : List (List ℕ)) → separator_before c (xs ++ ys) ≡ separator_before c xs ++ separator_before c ys
  unfolding separator_before
  before_append [] ys = refl
  before_append (x ∷ xs) ys = rw (before_append xs ys, append_assoc)

  pub join_append : (xs ys : List (List ℕ)) → Some xs → Some ys → join_by c (xs ++ ys) ≡ join_by c xs ++ (c ∷ join_by c ys)
  unfolding join_by separator_before
  join_append (x ∷ xs) (y ∷ ys) some some = rw (before_append xs (y ∷ ys), append_assoc)
  join_append [] ys x'' _ = elim x'' [ ]
  join_append (x ∷ xs) [] _ x7 = elim x7 [ ]

  pub join_snoc : (xs : List (List ℕ)) (x : List ℕ) → Some xs → join_by c (xs ++ (x ∷ [])) ≡ join_by c xs ++ (c ∷ x)
  unfolding join_by separator_before
  join_snoc xs x e = join_append xs (x ∷ []) e some ∙ rw append-nil

  -- a test that the separator passes: of what the parts make, and of the parts
  module _ (p : ℕ → Bool) (h : p c ≡ true) where
    all_before : (xs : List (List ℕ)) → all p (separator_before c xs) ≡ all (all p) xs
    unfolding separator_before all
    all_before [] = refl
    all_before (x ∷ xs) = rw (h, all_append p x (separator_before c xs), all_before xs)

    pub all_joined : (xs : List (List ℕ)) → all p (join_by c xs) ≡ all (all p) xs
    unfolding join_by all
    all_joined [] = refl
    all_joined (x ∷ xs) = rw (all_append p x (separator_before c xs), all_before xs)

  -- split at the separator and joined again, a list is as it was
  pub join_again : (s : List ℕ) → join_by c (split (λ b. eqb b c) s) ≡ s
  join_again s = join_split (λ b. eqb b c) c s ∙ same s
    where
      by : (b : ℕ) (t : Bool) → eqb b c ≡ t → cond t c b ≡ b
      by b true e = sym (eqb-true b c e)
      by b false e = refl

      same : (s : List ℕ) → map (λ b. cond (eqb b c) c b) s ≡ s
      same [] = refl
      same (b ∷ s) = rw (by b (eqb b c) refl, same s)

pub join_dots : (s : List ℕ) → join (split is_dot s) ≡ s
join_dots s = join_again 46 s
