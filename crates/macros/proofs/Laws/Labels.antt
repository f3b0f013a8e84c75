-- The last label of a text, and the tests of a top label. From the definitions of Reader and the laws of runs and of splitting.
use Prim.Native.Nat.{ℕ, ◌-◌, ◌≤◌, ◌<◌}
use mathlib.Core.Path.{◌≡◌, refl, sym, ap, ◌∙◌}
use mathlib.Core.List.{List, [], ◌∷◌, ◌++◌}
use mathlib.Core.Bool.{Bool, true, false, not, and-false, and-true}
use native.Mathlib.Omega.{arith}
use lib.ListN.{length, take, drop}
use borrow.Author.Tests.{not-true}
use Rattle.text.specs.Bytes.{at, is_dot, is_not_dot, is_digit, is_alphanumeric, is_toplabel_byte}
use Rattle.text.specs.Lists.{all, split, grow}
use Rattle.text.specs.Runs.{is_in, trailing_start}
use Rattle.text.specs.declared.bytes.Class.TheVariants.{NotDot, Digit, Alphanumeric, ToplabelByte}
use Rattle.text.proofs.Laws.Tests.{test_holds}
use Rattle.text.proofs.Laws.Classes.{class_test, class_tests}
use Rattle.text.proofs.Laws.Parts.{all_first, all_rest}
use Rattle.text.proofs.Laws.Runs.{trailing_all, trailing_le, trailing_first, trailing_next}
use Rattle.text.proofs.Laws.Spans.{rest_part}
use Rattle.text.proofs.Laws.Splitting.{Some, some, split_some, Undelimited, undelimited_last, undelimited_whole}
use Rattle.domain.specs.Normal.{without_dot}
use Rattle.macros.specs.Reader.{is_toplabel, last_label, ends_in_label}

-- the last of several parts
pub last_label_lem : (xs : List (List ℕ)) (y : List ℕ) → Some xs → last_label (xs ++ (y ∷ [])) ≡ y
unfolding last_label
last_label_lem (x ∷ []) y some = refl
last_label_lem (x ∷ z ∷ []) y some = refl
last_label_lem (x ∷ z ∷ w ∷ r) y some = last_label_lem (z ∷ w ∷ r) y some
last_label_lem [] y x' = elim x' [ ]

-- bytes without a dot are one label
pub split_undotted : (l : List ℕ) → all is_not_dot l ≡ true → split is_dot l ≡ l ∷ []
unfolding split grow
split_undotted [] h = refl
split_undotted (b ∷ l) h = simp (not-true (is_dot b) (all_first is_not_dot b l h), split_undotted l (all_rest is_not_dot b l h))

-- `last_label`: from i on there is no dot, and i is the first such place
module _ (s : List ℕ) (i : ℕ) (p : i ≡ trailing_start (is_in NotDot) s) where
  pub label_inside : i ≤ length s
  label_inside = rw p (trailing_le (is_in NotDot) s)

  rest : all (is_in NotDot) (drop i s) ≡ true
  rest = rw p (trailing_all (is_in NotDot) s)

  undotted : Undelimited is_dot s i
  undotted = record { within = label_inside; one = split_undotted (drop i s) (sym (class_tests NotDot (drop i s)) ∙ rest) }

  dot_before : 0 < i → is_dot (at s (i - 1)) ≡ true
  dot_before h = test_holds (is_dot (at s (i - 1)))
      (λ n.
      let c : is_in NotDot (at s (i - 1)) ≡ true = class_test NotDot (at s (i - 1)) ∙ ap not n in
      let k = trailing_first (is_in NotDot) s (i - 1) (trailing_next (is_in NotDot) s i label_inside rest h (is_in NotDot (at s (i - 1))) refl c) in
      omega (arith, p))

  pub label_here : (i ≡ 0 → ⊥) → take (length s - i) (drop i s) ≡ last_label (split is_dot s)
  label_here n =
      let h : 0 < i = omega arith in
      rest_part s i ∙ sym (ap last_label (undelimited_last is_dot s i undotted h (dot_before h))
      ∙ last_label_lem (split is_dot (take (i - 1) s)) (drop i s) (split_some is_dot (take (i - 1) s)))

  pub label_none : i ≡ 0 → [] ≡ last_label (split is_dot s)
  unfolding last_label
  label_none h = sym (ap last_label (undelimited_whole is_dot s i undotted (omega arith)))

-- the ways out of `is_toplabel`
module _ (l : List ℕ) (r : Bool) (p : r ≡ all (is_in ToplabelByte) l) where
  bytes : all is_toplabel_byte l ≡ r
  bytes = sym (class_tests ToplabelByte l) ∙ sym p

  pub top_bad_byte : r ≡ false → false ≡ is_toplabel l
  unfolding is_toplabel
  top_bad_byte q = sym (simp (bytes ∙ q))

  module _ (d : Bool) (pd : d ≡ all (is_in Digit) l) where
    digits : all is_digit l ≡ d
    digits = sym (class_tests Digit l) ∙ sym pd

    pub top_digits : d ≡ true → false ≡ is_toplabel l
    unfolding is_toplabel
    top_digits q = sym (simp (digits ∙ q, and-false))

    module _ (q : r ≡ true) (qd : d ≡ false) (f : ℕ) (ef : f ≡ at l 0) (a : Bool) (pa : a ≡ is_in Alphanumeric f) where
      first : is_alphanumeric (at l 0) ≡ a
      first = sym (class_test Alphanumeric (at l 0)) ∙ ap (is_in Alphanumeric) (sym ef) ∙ sym pa

      pub top_first : a ≡ false → a ≡ is_toplabel l
      unfolding is_toplabel
      top_first qa = qa ∙ sym (simp (bytes ∙ q, first ∙ qa))

      pub top_last : a ≡ true → (k : ℕ) → k ≡ length l - 1 → (g : ℕ) → g ≡ at l k → (z : Bool) → z ≡ is_in Alphanumeric g → z ≡ is_toplabel l
      unfolding is_toplabel
      top_last qa k ek g eg z pz =
          let last : is_alphanumeric (at l (length l - 1)) ≡ z = sym (class_test Alphanumeric (at l (length l - 1))) ∙ ap (is_in Alphanumeric) (sym (eg ∙ ap (at l) ek)) ∙ sym pz in
          sym (simp (bytes ∙ q, first ∙ qa, last, digits ∙ qd, and-true))

-- `ends_in_label`
pub label_at_end : (s w l : List ℕ) (r : Bool) → w ≡ without_dot s → l ≡ last_label (split is_dot w) → r ≡ is_toplabel l → r ≡ ends_in_label s
unfolding ends_in_label
label_at_end s w l r e p q = q ∙ ap is_toplabel (p ∙ ap (λ (x : List ℕ). last_label (split is_dot x)) e)
