-- A to Z lowered, a text is a name exactly if it was one; what `without_dot`, `write_lowered` and `read_name` answer. From the definitions of
-- Names and Normal and the laws of writing.
use Rattle.std.proofs.Common.{None, Option, Some}
use Prim.Native.Nat.{ℕ, ◌+◌, ◌-◌, ◌*◌, ◌^◌, ◌≤◌, ◌<◌}
use mathlib.Core.Path.{◌≡◌, refl, sym, ap, ◌∙◌}
use mathlib.Core.List.{List, [], ◌∷◌, map}
use mathlib.Core.Bool.{Bool, true, false, cond}
use native.Mathlib.Omega.{arith}
use lib.ListN.{length, take, length-map}
use borrow.Author.Tests.{eq-eqb, ne_eqb}
use Rattle.text.specs.Bytes.{at, is_dot, is_visible, is_upper, lower, within}
use Rattle.text.specs.Lists.{split, grow}
use Rattle.text.specs.Writing.{Wrote}
use Rattle.text.proofs.Laws.Tests.{cond-elim}
use Rattle.text.proofs.Laws.Parts.{all_map}
use Rattle.text.proofs.Laws.Classes.{within_range, range_within}
use Rattle.text.proofs.Laws.Writing.{wrote_over, wrote_length}
use Rattle.domain.specs.Names.{labels, is_label, is_name}
use Rattle.domain.specs.Normal.{name, malformed, without_dot, lowered, normal, name_answer, name_buffer}

-- lower case keeps a test that doesn't tell the cases of a letter apart: a dot stays a dot, and a visible byte visible
lower_keeps : (p : ℕ → Bool) → ((b : ℕ) → 65 ≤ b → b ≤ 90 → p (b + 32) ≡ p b) → (b : ℕ) → p (lower b) ≡ p b
unfolding lower is_upper
lower_keeps p h b = cond-elim (λ (x : ℕ). p x ≡ p b) (within 65 90 b) {x = b + 32} {y = b}
    (λ e. let w = within_range 65 90 b e in h b w.0 w.1) (λ _. refl)

pub dot_lower : (b : ℕ) → is_dot (lower b) ≡ is_dot b
dot_lower = lower_keeps is_dot (λ b l m. ne_eqb (b + 32) 46 (λ k. omega arith) ∙ sym (ne_eqb b 46 (λ k. omega arith)))

pub visible_lower : (b : ℕ) → is_visible (lower b) ≡ is_visible b
unfolding is_visible
visible_lower = lower_keeps is_visible (λ b l m. range_within 33 126 (b + 32) (omega arith) (omega arith) ∙ sym (range_within 33 126 b (omega arith) (omega arith)))

-- lower case keeps the labels apart
grow_lower : (b : ℕ) (xs : List (List ℕ)) → grow (lower b) (map (map lower) xs) ≡ map (map lower) (grow b xs)
unfolding grow
grow_lower b [] = refl
grow_lower b (x ∷ xs) = refl

pub labels_lower : (s : List ℕ) → labels (map lower s) ≡ map (map lower) (labels s)
unfolding labels split
labels_lower [] = refl
labels_lower (b ∷ s) = rw (dot_lower b, labels_lower s) (by (is_dot b))
  where
    by : (t : Bool)
        → cond t ([] ∷ map (map lower) (split is_dot s)) (grow (lower b) (map (map lower) (split is_dot s)))
        ≡ map (map lower) (cond t ([] ∷ split is_dot s) (grow b (split is_dot s)))
    by true = refl
    by false = grow_lower b (split is_dot s)

label_lower : (l : List ℕ) → is_label (map lower l) ≡ is_label l
unfolding is_label
label_lower l = rw (length-map l lower, all_map is_visible lower visible_lower l)

pub name_lowered : (s : List ℕ) → is_name (map lower s) ≡ is_name s
unfolding is_name
name_lowered s = rw (length-map s lower, labels_lower s, all_map is_label (map lower) label_lower (labels s))

-- what a text names, by whether it is a name as it stands
module _ (s : List ℕ) (r : Bool) (p : r ≡ is_name s) where
  pub lowered_name : r ≡ true → lowered s ≡ name (map lower s)
  unfolding lowered
  lowered_name h = rw (name_lowered s ∙ sym p ∙ h)

  pub lowered_malformed : r ≡ false → lowered s ≡ malformed
  unfolding lowered
  lowered_malformed h = rw (name_lowered s ∙ sym p ∙ h)

  -- `write_lowered`
  module _ (h : r ≡ true) (before after : List ℕ) (n : ℕ) (w : Wrote (map lower s) before 0 after n) where
    pub write_answer : length s * 1 < 2 ^ 63 → Some n ≡ name_answer (lowered s)
    write_answer l = rw (lowered_name h) (ap Some (wrote_length (map lower s) before after n w (rw length-map (omega arith))))

    pub write_buffer : after ≡ name_buffer (lowered s) before
    write_buffer = rw (lowered_name h) (wrote_over (map lower s) before after n w)

  pub refuse_answer : r ≡ false → None ≡ name_answer (lowered s)
  refuse_answer h = rw (lowered_malformed h)

  pub refuse_buffer : r ≡ false → (before : List ℕ) → before ≡ name_buffer (lowered s) before
  refuse_buffer h before = rw (lowered_malformed h)

-- `without_dot`
module _ (s : List ℕ) where
  pub without_empty : length s < 1 → s ≡ without_dot s
  unfolding without_dot
  without_empty h = by s h
    where
      by : (s : List ℕ) → length s < 1 → s ≡ cond (is_dot (at s (length s - 1))) (take (length s - 1) s) s
      by [] h = refl
      by (x ∷ s) h = absurd (omega arith)

  pub without_last : at s (length s - 1) ≡ 46 → take (length s - 1) s ≡ without_dot s
  unfolding without_dot
  without_last h = simp (eq-eqb _ _ h)

  pub without_none : (at s (length s - 1) ≡ 46 → ⊥) → s ≡ without_dot s
  unfolding without_dot
  without_none h = simp (ne_eqb _ _ h)

-- `read_name`
module _ (s t : List ℕ) (e : t ≡ without_dot s) where
  pub read_answer : (r : Option ℕ) → r ≡ name_answer (lowered t) → r ≡ name_answer (normal s)
  unfolding normal
  read_answer r h = rw e at h

  pub read_buffer : (before after : List ℕ) → after ≡ name_buffer (lowered t) before → after ≡ name_buffer (normal s) before
  unfolding normal
  read_buffer before after h = rw e at h
