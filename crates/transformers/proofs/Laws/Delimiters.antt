-- What `position` and `rposition` tell of a value, as its parts: `p` is the test of a delimiter. From the laws of splitting.
use Prim.Native.Nat.{ℕ, suc, ◌+◌, ◌≤◌, ◌<◌}
use native.Mathlib.Omega.{arith}
use mathlib.Core.Path.{◌≡◌, refl, sym, ap, ◌∙◌}
use mathlib.Core.List.{List, [], ◌∷◌, ◌++◌}
use mathlib.Core.Bool.{Bool, true, false}
use lib.ListN.{length, get_or, take, drop, take-append-drop, length-drop}
use lib.Seq.{get_or-drop, length-take-le}
use Rattle.std.proofs.lemmas.List.{drop_more, get_or-take}
use Rattle.text.specs.Lists.{split, grow}
use Rattle.text.proofs.Laws.Splitting.{split_append}

module _ (p : ℕ → Bool) where
  -- with no delimiter there is one part
  pub one_part : (s : List ℕ) → ((k : ℕ) → k < length s → p (get_or s k 0) ≡ false) → split p s ≡ s ∷ []
  unfolding split grow
  one_part [] h = refl
  one_part (b ∷ s) h = rw (h 0 (omega arith), one_part s (λ k l. h (suc k) (omega arith)))

  -- a delimiter at i
  module _ (s : List ℕ) (i : ℕ) (inside : i < length s) (here : p (get_or s i 0) ≡ true) where
    pub around : s ≡ take i s ++ get_or s i 0 ∷ drop (i + 1) s
    around = sym (take-append-drop i s) ∙ ap (λ (l : List ℕ). take i s ++ l) (drop_more s i 0 inside)

    parted : split p s ≡ split p (take i s) ++ split p (drop (i + 1) s)
    parted = ap (split p) around ∙ split_append p (take i s) (get_or s i 0) (drop (i + 1) s) here

    -- the first one
    module _ (before : (k : ℕ) → k < i → p (get_or s k 0) ≡ false) where
      pub front_alone : split p (take i s) ≡ take i s ∷ []
      front_alone =
          one_part (take i s) (λ k l. let below : k < i = omega (arith, length-take-le i s (omega arith)) in rw (get_or-take i s k 0 below) (before k below))

      pub first_part : split p s ≡ take i s ∷ split p (drop (i + 1) s)
      first_part = parted ∙ ap (λ (xs : List (List ℕ)). xs ++ split p (drop (i + 1) s)) front_alone

    -- the last one
    module _ (after : (k : ℕ) → i + 1 ≤ k → k < length s → p (get_or s k 0) ≡ false) where
      pub back_alone : split p (drop (i + 1) s) ≡ drop (i + 1) s ∷ []
      back_alone =
          one_part (drop (i + 1) s) (λ k l. rw (get_or-drop (i + 1) s k 0) (after (i + 1 + k) (omega arith) (omega (arith, length-drop (i + 1) s))))

      pub last_part : split p s ≡ split p (take i s) ++ (drop (i + 1) s ∷ [])
      last_part = parted ∙ ap (λ (xs : List (List ℕ)). split p (take i s) ++ xs) back_alone
