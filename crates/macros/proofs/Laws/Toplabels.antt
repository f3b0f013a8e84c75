-- Top labels: the reader's test holds of exactly what the grammar produces. From the classes of bytes and the laws of parts.
use Prim.Native.Nat.{ℕ, ◌-◌}
use mathlib.Core.Path.{◌≡◌, refl, sym, ap, subst, ◌∙◌}
use mathlib.Core.List.{List, [], ◌∷◌, ◌++◌, append_assoc}
use mathlib.Core.Bool.{Bool, true, false}
use native.Mathlib.Omega.{arith}
use lib.ListN.{length, length-append}
use borrow.Author.Tests.{not-true}
use Rattle.text.specs.Bytes.{at, within, is_upper, is_alpha, is_digit, is_alphanumeric, is_toplabel_byte}
use Rattle.text.specs.Lists.{all}
use Rattle.text.proofs.Laws.Tests.{and_left, and_right, true_false}
use Rattle.text.proofs.Laws.Parts.{all_none, all_join, all_front, all_back, all_cons, all_first, all_rest, all_at_lem, all_inside, one_fails, first_failing, at_last, Last, empty, snoc, last_of}
use Rattle.macros.specs.Grammar.{Toplabel, letters, hyphens}
use Rattle.macros.specs.Reader.{is_toplabel}
use Rattle.macros.proofs.Laws.Bytes.{alpha_no_digit, alpha_alphanumeric, alphanumeric_toplabel, letter_of, hyphen_of}

-- the last byte of a label with a hyphen
last_at : (u w : List ℕ) (z : ℕ) → at (u ++ (45 ∷ (w ++ (z ∷ [])))) (length (u ++ (45 ∷ (w ++ (z ∷ [])))) - 1) ≡ z
last_at u w z = ap (λ (t : List ℕ). at t (length t - 1)) (sym (append_assoc u (45 ∷ w) (z ∷ []))) ∙ at_last (u ++ (45 ∷ w)) z

-- a produced label passes the test
module _ (l : List ℕ) where
  passes : all is_toplabel_byte l ≡ true → is_alphanumeric (at l 0) ≡ true → is_alphanumeric (at l (length l - 1)) ≡ true → all is_digit l ≡ false → is_toplabel l ≡ true
  unfolding is_toplabel
  passes h0 h1 h2 h3 = simp (h0, h1, h2, h3)

hyphen_no_digit : is_digit 45 ≡ false
unfolding is_digit within
hyphen_no_digit = refl

hyphen_toplabel : is_toplabel_byte 45 ≡ true
unfolding is_toplabel_byte is_alphanumeric is_alpha is_digit is_upper within
hyphen_toplabel = refl

hyphen_no_alphanumeric : is_alphanumeric 45 ≡ false
unfolding is_alphanumeric is_alpha is_digit is_upper within
hyphen_no_alphanumeric = refl

pub toplabel_complete : {l : List ℕ} → Toplabel l → is_toplabel l ≡ true
toplabel_complete (letters u w b hu hb hw) =
    let l = u ++ (b ∷ w) in
    let a = all_join is_alphanumeric u (b ∷ w) hu (all_cons is_alphanumeric b w (alpha_alphanumeric b hb) hw) in
    passes l
    (all_inside is_alphanumeric is_toplabel_byte alphanumeric_toplabel l a)
    (all_at_lem is_alphanumeric l 0 (omega (arith, length-append u (b ∷ w))) a)
    (all_at_lem is_alphanumeric l (length l - 1) (omega (arith, length-append u (b ∷ w))) a)
    (one_fails is_digit u b w (alpha_no_digit b hb))
toplabel_complete (hyphens u w a z ha hu hw hz) =
    let l : List ℕ = (a ∷ u) ++ (45 ∷ (w ++ (z ∷ []))) in
    passes l
    (all_join is_toplabel_byte (a ∷ u) (45 ∷ (w ++ (z ∷ [])))
    (all_inside is_alphanumeric is_toplabel_byte alphanumeric_toplabel (a ∷ u) (all_cons is_alphanumeric a u ha hu))
    (all_cons is_toplabel_byte 45 (w ++ (z ∷ [])) hyphen_toplabel
    (all_join is_toplabel_byte w (z ∷ []) hw (all_inside is_alphanumeric is_toplabel_byte alphanumeric_toplabel (z ∷ []) (all_cons is_alphanumeric z [] hz (all_none is_alphanumeric))))))
    ha
    (ap is_alphanumeric (last_at (a ∷ u) w z) ∙ hz)
    (one_fails is_digit (a ∷ u) 45 (w ++ (z ∷ [])) hyphen_no_digit)

-- what passes the test is produced
hyphens_made : (u v : List ℕ) → Last v → all is_alphanumeric u ≡ true → all is_toplabel_byte v ≡ true → is_alphanumeric (at (u ++ (45 ∷ v)) 0) ≡ true
    → is_alphanumeric (at (u ++ (45 ∷ v)) (length (u ++ (45 ∷ v)) - 1)) ≡ true → Toplabel (u ++ (45 ∷ v))
hyphens_made [] v x hu hv h0 h1 = absurd (true_false (is_alphanumeric 45) h0 hyphen_no_alphanumeric)
hyphens_made (a ∷ u) _ empty hu hv h0 h1 = absurd (true_false (is_alphanumeric 45) (ap is_alphanumeric (sym (at_last (a ∷ u) 45)) ∙ h1) hyphen_no_alphanumeric)
hyphens_made (a ∷ u) _ (snoc w z) hu hv h0 h1 =
    hyphens u w a z h0 (all_rest is_alphanumeric a u hu) (all_front is_toplabel_byte w (z ∷ []) hv) (ap is_alphanumeric (sym (last_at (a ∷ u) w z)) ∙ h1)

module _ (l : List ℕ) (bytes : all is_toplabel_byte l ≡ true) (first : is_alphanumeric (at l 0) ≡ true) (last : is_alphanumeric (at l (length l - 1)) ≡ true)
    (word : all is_digit l ≡ false) where
  made : Toplabel l
  made = by (all is_alphanumeric l) refl
    where
      by : (t : Bool) → all is_alphanumeric l ≡ t → Toplabel l
      by true e =
          let f = first_failing is_digit l word in
          let a = f.parts in
          let h : all is_alphanumeric (f.before ++ (f.element ∷ f.after)) ≡ true = ap (all is_alphanumeric) (sym a) ∙ e in
          let k = all_back is_alphanumeric f.before (f.element ∷ f.after) h in
          subst Toplabel (sym a) (letters f.before f.after f.element (all_front is_alphanumeric f.before (f.element ∷ f.after) h)
          (letter_of f.element (all_first is_alphanumeric f.element f.after k) f.fails) (all_rest is_alphanumeric f.element f.after k))
      by false e =
          let f = first_failing is_alphanumeric l e in
          let h = all_back is_toplabel_byte f.before (f.element ∷ f.after) (ap (all is_toplabel_byte) (sym f.parts) ∙ bytes) in
          let b : f.element ≡ 45 = hyphen_of f.element (all_first is_toplabel_byte f.element f.after h) f.fails in
          let a : l ≡ f.before ++ (45 ∷ f.after) = f.parts ∙ ap (λ (c : ℕ). f.before ++ (c ∷ f.after)) b in
          subst Toplabel (sym a) (hyphens_made f.before f.after (last_of f.after) f.holds (all_rest is_toplabel_byte f.element f.after h)
          (ap (λ (t : List ℕ). is_alphanumeric (at t 0)) (sym a) ∙ first) (ap (λ (t : List ℕ). is_alphanumeric (at t (length t - 1))) (sym a) ∙ last))

-- the parts of the test
pub record Passed (l : List ℕ) : Type 0 where
  pub bytes : all is_toplabel_byte l ≡ true
  pub first : is_alphanumeric (at l 0) ≡ true
  pub last : is_alphanumeric (at l (length l - 1)) ≡ true
  pub word : all is_digit l ≡ false

pub passed : (l : List ℕ) → is_toplabel l ≡ true → Passed l
unfolding is_toplabel
passed l h =
    let k = and_right (all is_toplabel_byte l) _ h in
    let m = and_right (is_alphanumeric (at l 0)) _ k in
    record {
      bytes = and_left (all is_toplabel_byte l) _ h;
      first = and_left (is_alphanumeric (at l 0)) _ k;
      last = and_left (is_alphanumeric (at l (length l - 1))) _ m;
      word = not-true (all is_digit l) (and_right (is_alphanumeric (at l (length l - 1))) _ m);
    }

-- nothing is no label
pub empty_no_label : is_toplabel [] ≡ false
unfolding is_toplabel all is_alphanumeric is_alpha is_digit is_upper within
empty_no_label = refl

pub toplabel_sound : (l : List ℕ) → is_toplabel l ≡ true → Toplabel l
toplabel_sound l h = let p = passed l h in made l p.bytes p.first p.last p.word
