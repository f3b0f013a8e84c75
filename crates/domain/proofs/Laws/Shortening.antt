-- What is left of an over-long name: a suffix of it, whole labels of it, and at most 253 bytes or one label. From the definition of
-- Shortening and the laws of splitting.
use Prim.Native.Nat.{ℕ, zero, suc, ◌+◌, ◌-◌, ◌≤◌, ◌<◌}
use mathlib.Core.Path.{◌≡◌, refl, sym, ap, ◌∙◌}
use mathlib.Core.Logic.{◌⊎◌, ⊎_elim, inl, inr}
use mathlib.Core.List.{List, [], ◌∷◌, ◌++◌, append_assoc, append-nil}
use native.Mathlib.Omega.{arith}
use lib.ListN.{length, take, drop, length-drop}
use lib.Seq.{split_at, drop-drop}
use borrow.Author.Tests.{le-leb, lt-leb}
use Rattle.text.specs.Bytes.{is_dot}
use Rattle.text.specs.Lists.{separator_before, join_by, join}
use Rattle.text.specs.Runs.{is_in, run_end}
use Rattle.text.specs.declared.bytes.Class.TheVariants.{NotDot}
use Rattle.text.proofs.Laws.Spans.{rest_part}
use Rattle.text.proofs.Laws.Splitting.{Some, some, front}
use Rattle.text.proofs.Laws.Orders.{le_or_lt}
use Rattle.domain.specs.Names.{labels, label_count}
use Rattle.domain.specs.Shortening.{shorter_labels, shortened}
use Rattle.domain.proofs.Laws.Labels.{front_dot, labels_some, join_labels, labels_none, labels_first}

-- the labels that stay
shorter_same : (xs : List (List ℕ)) → length (join xs) ≤ 253 → shorter_labels xs ≡ xs
unfolding shorter_labels
shorter_same [] h = refl
shorter_same (x ∷ []) h = refl
shorter_same (x ∷ y ∷ r) h = rw (le-leb _ _ h)

shorter_less : (x : List ℕ) (xs : List (List ℕ)) → Some xs → 253 < length (join (x ∷ xs)) → shorter_labels (x ∷ xs) ≡ shorter_labels xs
unfolding shorter_labels
shorter_less x (y ∷ r) some h = rw (lt-leb _ _ h)
shorter_less x [] x3 h = elim x3 [ ]

-- one step: nothing leaves, nothing can, or the first label does
module _ (s : List ℕ) where
  pub shortened_same : length s ≤ 253 → shortened s ≡ s
  unfolding shortened
  shortened_same h = rw (shorter_same (labels s) (rw join_labels h), join_labels)

  pub shortened_last : length s ≤ front is_dot s → shortened s ≡ s
  unfolding shortened shorter_labels join_by separator_before
  shortened_last h = rw (labels_none s h, append-nil)

  pub shortened_less : 253 < length s → front is_dot s < length s → shortened s ≡ shortened (drop (suc (front is_dot s)) s)
  unfolding shortened
  shortened_less h k =
      let rest = drop (suc (front is_dot s)) s in
      let long : 253 < length (join (take (front is_dot s) s ∷ labels rest)) = rw (← labels_first s k, join_labels) h in
      rw (labels_first s k, shorter_less (take (front is_dot s) s) (labels rest) (labels_some rest) long)

-- what holds of a name and of what is left of it: by these three steps. It gives three facts that tell a reader what shortening leaves.
module _ (P : List ℕ → List ℕ → Type 0)
    (same : (s : List ℕ) → length s ≤ 253 → P s s)
    (last : (s : List ℕ) → labels s ≡ s ∷ [] → P s s)
    (less : (s x rest t : List ℕ) → s ≡ x ++ 46 ∷ rest → labels s ≡ x ∷ labels rest → P rest t → P s t) where
  steps : (n : ℕ) (s : List ℕ) → length s < n → P s (shortened s)
  steps zero s h = absurd (omega arith)
  steps (suc n) s h = ⊎_elim
      (λ (k : length s ≤ 253). rw (shortened_same s k) (same s k))
      (λ (k : 253 < length s). ⊎_elim
      (λ (l : length s ≤ front is_dot s). rw (shortened_last s l) (last s (labels_none s l)))
      (λ (l : front is_dot s < length s).
      let rest = drop (suc (front is_dot s)) s in
      let dot : s ≡ take (front is_dot s) s ++ 46 ∷ rest = split_at s (front is_dot s) 0 l ∙ rw (front_dot s l) in
      rw (shortened_less s k l)
      (less s (take (front is_dot s) s) rest (shortened rest) dot (labels_first s l) (steps n rest (rw length-drop (omega arith)))))
      (le_or_lt (length s) (front is_dot s)))
      (le_or_lt (length s) 253)

  pub shortened_by_steps : (s : List ℕ) → P s (shortened s)
  shortened_by_steps s = steps (suc (length s)) s (omega arith)

-- it is a suffix
pub shortened_suffix : (s : List ℕ) → (u : List ℕ) × (s ≡ u ++ shortened s)
shortened_suffix = shortened_by_steps (λ s t. (u : List ℕ) × (s ≡ u ++ t))
    (λ s h. ([], refl))
    (λ s h. ([], refl))
    (λ s x rest t d l p. (x ++ 46 ∷ p.0, d ∙ ap (λ (y : List ℕ). x ++ 46 ∷ y) p.1 ∙ sym (append_assoc x (46 ∷ p.0) t)))

-- no label is cut: its labels are the last labels of the name
pub shortened_labels : (s : List ℕ) → (above : List (List ℕ)) × (labels s ≡ above ++ labels (shortened s))
shortened_labels = shortened_by_steps (λ s t. (above : List (List ℕ)) × (labels s ≡ above ++ labels t))
    (λ s h. ([], refl))
    (λ s h. ([], refl))
    (λ s x rest t d l p. (x ∷ p.0, l ∙ ap (λ (y : List (List ℕ)). x ∷ y) p.1))

-- it fits, or no dot remains
pub shortened_fits : (s : List ℕ) → (length (shortened s) ≤ 253) ⊎ (label_count (shortened s) ≡ 1)
unfolding label_count
shortened_fits = shortened_by_steps (λ s t. (length t ≤ 253) ⊎ (length (labels t) ≡ 1))
    (λ s h. inl h)
    (λ s h. inr (ap length h))
    (λ s x rest t d l p. p)

-- `shorten_from`: what is left of the name that begins at i
module _ (s : List ℕ) (i : ℕ) where
  pub shorten_same : length s - i ≤ 253 → drop i s ≡ shortened (drop i s)
  shorten_same h = sym (shortened_same (drop i s) (rw length-drop h))

  -- e is where its first dot stands, or its end
  module _ (e : ℕ) (r : e ≡ run_end (is_in NotDot) s i) where
    at_front : e ≡ i + front is_dot (drop i s)
    unfolding run_end is_in
    at_front = r

    pub shorten_on : i ≤ e
    shorten_on = omega (arith, at_front)

    pub shorten_last : length s ≤ e → drop i s ≡ shortened (drop i s)
    shorten_last h = sym (shortened_last (drop i s) (omega (arith, at_front, length-drop i s)))

    module _ (k : e < length s) where
      after_dot : drop (e + 1) s ≡ drop (suc (front is_dot (drop i s))) (drop i s)
      after_dot =
          let q : e + 1 ≡ i + suc (front is_dot (drop i s)) = omega (arith, at_front) in
          ap (λ (m : ℕ). drop m s) q ∙ sym (drop-drop (suc (front is_dot (drop i s))) i s)

      pub shorten_less : 253 < length s - i → (t : List ℕ) → t ≡ shortened (drop (e + 1) s) → t ≡ shortened (drop i s)
      shorten_less h t p =
          let n = length-drop i s in
          p ∙ ap shortened after_dot ∙ sym (shortened_less (drop i s) (omega arith) (omega (arith, at_front)))

-- `shorten`
pub shorten_part : (s : List ℕ) (i : ℕ) → drop i s ≡ shortened s → take (length s - i) (drop i s) ≡ shortened s
shorten_part s i h = rest_part s i ∙ h
