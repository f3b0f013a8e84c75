-- At or below a target: by labels, as the definition says it, and by bytes, as the code tests it. From the definitions of Names and the laws
-- of splitting and joining.
use Prim.Native.Nat.{ℕ, ◌-◌, ◌≤◌, ◌<◌}
use mathlib.Core.Path.{◌≡◌, refl, sym, ap, ◌∙◌}
use mathlib.Core.Logic.{◌⊎◌, ⊎_elim, inl, inr, ◌↔◌}
use mathlib.Core.List.{List, [], ◌∷◌, ◌++◌}
use mathlib.Core.Bool.{Bool, true, false}
use native.Mathlib.Omega.{arith}
use lib.ListN.{length, take, drop, length-append, take-append-drop}
use lib.Seq.{append_snoc, drop-cons, get_or_at}
use lib.Dec.{eqb}
use borrow.Author.Tests.{eqb-true, eqb-false}
use Rattle.text.specs.Bytes.{at, is_dot}
use Rattle.text.specs.Lists.{split, join, rightmost}
use Rattle.text.proofs.Laws.Tests.{fails_test}
use Rattle.text.proofs.Laws.Parts.{rightmost_append, at_last, Last, empty, snoc, last_of}
use Rattle.text.proofs.Laws.Words.{same_true, same_refl}
use Rattle.text.proofs.Laws.Splitting.{Some, some, some_count, split_append, join_append}
use Rattle.domain.specs.Names.{labels, label_count, at_or_below}
use Rattle.domain.proofs.Laws.Labels.{labels_some, join_labels}

module _ (name target : List ℕ) where
  labels_dot : (u : List ℕ) → name ≡ u ++ 46 ∷ target → labels name ≡ labels u ++ labels target
  unfolding labels
  labels_dot u e = ap (split is_dot) e ∙ split_append is_dot u 46 target refl

  -- by bytes: the name is the target, or ends in a dot and the target
  last_bytes : (above last : List (List ℕ)) → Some last → labels name ≡ above ++ last → join last ≡ target
      → (name ≡ target) ⊎ ((u : List ℕ) × (name ≡ u ++ 46 ∷ target))
  last_bytes [] last s e f = inl (sym (join_labels name) ∙ ap join e ∙ f)
  last_bytes (x ∷ xs) last s e f =
      inr (join (x ∷ xs), sym (join_labels name) ∙ ap join e ∙ join_append 46 (x ∷ xs) last some s ∙ ap (λ (t : List ℕ). join (x ∷ xs) ++ 46 ∷ t) f)

  below_bytes : at_or_below name target ≡ true → (name ≡ target) ⊎ ((u : List ℕ) × (name ≡ u ++ 46 ∷ target))
  unfolding at_or_below rightmost label_count
  below_bytes h =
      let k = length (labels name) - length (labels target) in
      let here : k < length (labels name) = omega (arith, some_count (labels_some name), some_count (labels_some target)) in
      last_bytes (take k (labels name)) (drop k (labels name)) (rw (drop-cons (labels name) k [] here) some)
      (sym (take-append-drop k (labels name))) (same_true _ _ h)

  -- by labels: those of the name end in those of the target. This tells a reader that no part of a label counts.
  true_at_or_below : (above : List (List ℕ)) → labels name ≡ above ++ labels target → at_or_below name target ≡ true
  unfolding at_or_below label_count
  true_at_or_below above e =
      rw (e, rightmost_append (length (labels target)) above (labels target) refl, join_labels target) (same_refl target)

  pub at_or_below_iff : (at_or_below name target ≡ true) ↔ ((above : List (List ℕ)) × (labels name ≡ above ++ labels target))
  at_or_below_iff = (
    (λ h. ⊎_elim (λ e. ([], ap labels e)) (λ p. (labels p.0, labels_dot p.0 p.1)) (below_bytes h)),
    (λ x. true_at_or_below x.0 x.1),
  )

  same_below : name ≡ target → true ≡ at_or_below name target
  same_below e = sym (true_at_or_below [] (ap labels e))

  dot_below : (u : List ℕ) → name ≡ u ++ 46 ∷ target → true ≡ at_or_below name target
  dot_below u e = sym (true_at_or_below (labels u) (labels_dot u e))

  not_below : (name ≡ target → ⊥) → ((u : List ℕ) → name ≡ u ++ 46 ∷ target → ⊥) → false ≡ at_or_below name target
  not_below h k = fails_test (at_or_below name target) (λ t. ⊎_elim h (λ p. k p.0 p.1) (below_bytes t))

  -- `at_or_below`: nothing is left before the target, or what ends in a dot
  pub below_none : ((u : List ℕ) → name ≡ u ++ target → ⊥) → false ≡ at_or_below name target
  below_none h = not_below (h []) (λ u e. h (u ++ (46 ∷ [])) (e ∙ sym (append_snoc u 46 target)))

  pub below_all : (u : List ℕ) → name ≡ u ++ target → length u < 1 → true ≡ at_or_below name target
  below_all [] e h = same_below e
  below_all (x ∷ u) e h = absurd (omega arith)

  last_byte : (u : List ℕ) (b : ℕ) → name ≡ u ++ (b ∷ target) → eqb b 46 ≡ at_or_below name target
  last_byte u b e = by (eqb b 46) refl
    where
      by : (x : Bool) → eqb b 46 ≡ x → x ≡ at_or_below name target
      by true d = dot_below u (e ∙ ap (λ (c : ℕ). u ++ (c ∷ target)) (eqb-true b 46 d))
      by false d = not_below
          (λ k. omega (arith, length-append u (b ∷ target), ap length (sym k ∙ e)))
          (λ v k. eqb-false b 46 d (sym (get_or_at u b target 0 (length u) refl) ∙ ap (λ (l : List ℕ). at l (length u)) (sym e ∙ k)
          ∙ get_or_at v 46 target 0 (length u) (omega (arith, length-append u (b ∷ target), length-append v (46 ∷ target), ap length (sym e ∙ k)))))

  pub below_last : (u : List ℕ) → name ≡ u ++ target → 1 ≤ length u → eqb (at u (length u - 1)) 46 ≡ at_or_below name target
  below_last u e h = by (last_of u) e h
    where
      by : {u : List ℕ} → Last u → name ≡ u ++ target → 1 ≤ length u → eqb (at u (length u - 1)) 46 ≡ at_or_below name target
      by empty e h = absurd (omega arith)
      by (snoc w z) e h = rw (at_last w z) (last_byte w z (e ∙ append_snoc w z target))
