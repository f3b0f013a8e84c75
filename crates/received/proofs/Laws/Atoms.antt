-- dot-atom-text: the test by states holds exactly of what the production makes. From the definitions of Atoms and States.
use Prim.Native.Nat.{ℕ, ◌≤◌}
use mathlib.Core.Path.{◌≡◌, refl, sym, ap, subst, ◌∙◌}
use mathlib.Core.List.{List, [], ◌∷◌, ◌++◌, append_assoc, append-nil}
use mathlib.Core.Bool.{Bool, true, false}
use native.Mathlib.Omega.{arith}
use lib.ListN.{length, drop, length-append}
use lib.Dec.{eqb}
use borrow.Author.Tests.{eqb-true}
use Rattle.text.specs.Bytes.{within, is_upper, is_alpha, is_digit, is_alphanumeric}
use Rattle.text.specs.Lists.{all, contains}
use Rattle.text.proofs.Laws.Tests.{or_left, or_right, test_fails}
use Rattle.text.proofs.Laws.Classes.{apart}
use Rattle.text.proofs.Laws.Parts.{all_none, all_join, all_join_by, all_cons, all_first, all_rest, all_inside}
use Rattle.received.specs.Atoms.{is_atext, Atom, DotAtomText, last, dotted}
use Rattle.received.specs.States.{fold, atom_step, is_within, is_dot_atom_text, is_plain}
use Rattle.received.specs.declared.quoting.Atoms.{Atoms}
use Rattle.received.specs.declared.quoting.Atoms.TheVariants.{Before, Within, Failed}
use Rattle.received.proofs.Laws.Folding.{fold_append, fold_end}

-- no dot, quote, backslash, semicolon or control byte is an atom's
pub no_dot : is_atext 46 ≡ false
unfolding is_atext is_alphanumeric is_alpha is_upper is_digit within contains
no_dot = refl

-- steps
step_failed : (s : List ℕ) → fold atom_step Failed s ≡ Failed
unfolding fold atom_step
step_failed [] = refl
step_failed (b ∷ s) = step_failed s

step_before : (b : ℕ) → is_atext b ≡ true → atom_step Before b ≡ Within
unfolding atom_step
step_before b h = rw h

step_within : (b : ℕ) → is_atext b ≡ true → atom_step Within b ≡ Within
unfolding atom_step
step_within b h = rw (apart is_atext b 46 h no_dot, h)

dot_within : (w : List ℕ) → fold atom_step Within (46 ∷ w) ≡ fold atom_step Before w
unfolding fold atom_step
dot_within w = refl

dot_first : (b : ℕ) → is_atext b ≡ false → atom_step Before b ≡ Failed
unfolding atom_step
dot_first b h = rw h

dot_second : (b : ℕ) → eqb b 46 ≡ true → atom_step Within b ≡ Before
unfolding atom_step
dot_second b h = rw h

step_none : (b : ℕ) → eqb b 46 ≡ false → is_atext b ≡ false → atom_step Within b ≡ Failed
unfolding atom_step
step_none b e f = rw (e, f)

within_atom : (u : List ℕ) → all is_atext u ≡ true → fold atom_step Within u ≡ Within
unfolding fold
within_atom [] h = refl
within_atom (b ∷ u) h = ap (λ (k : Atoms). fold atom_step k u) (step_within b (all_first is_atext b u h)) ∙ within_atom u (all_rest is_atext b u h)

whole_atom : (u : List ℕ) → Atom u → fold atom_step Before u ≡ Within
unfolding fold
whole_atom [] a = absurd (omega (arith, a.some))
whole_atom (b ∷ u) a =
    ap (λ (k : Atoms). fold atom_step k u) (step_before b (all_first is_atext b u a.bytes_of)) ∙ within_atom u (all_rest is_atext b u a.bytes_of)

state_complete : {s : List ℕ} → DotAtomText s → fold atom_step Before s ≡ Within
state_complete {s} (last a) = whole_atom s a
state_complete (dotted {u} {w} a d) = fold_append atom_step Before u (46 ∷ w) ∙ ap (λ (k : Atoms). fold atom_step k (46 ∷ w)) (whole_atom u a) ∙ go (state_complete d)
  where
    go : fold atom_step Before w ≡ Within → fold atom_step Within (46 ∷ w) ≡ Within
    go h = dot_within w ∙ h

pub dot_complete : {s : List ℕ} → DotAtomText s → is_dot_atom_text s ≡ true
unfolding is_dot_atom_text is_within
dot_complete {s} d = ap is_within (state_complete d)

is_within_true : (k : Atoms) → is_within k ≡ true → k ≡ Within
unfolding is_within
is_within_true Within h = refl
is_within_true Before h = cc
is_within_true Failed h = cc

-- back from the states
pub record Both (s : List ℕ) : Type 0 where
  pub before : fold atom_step Before s ≡ Within → DotAtomText s
  pub inside : (u : List ℕ) → Atom u → fold atom_step Within s ≡ Within → DotAtomText (u ++ s)

state_sound : (s : List ℕ) → Both s
unfolding fold
state_sound [] = record {
  before = λ h. absurd (let e : Before ≡ Within = h in cc);
  inside = λ u a h. subst (λ (t : List ℕ). DotAtomText t) (sym (append-nil u)) (last a);
}
state_sound (b ∷ s) = by (eqb b 46) refl (is_atext b) refl (state_sound s)
  where
    one : (h : is_atext b ≡ true) → Atom (b ∷ [])
    one h = record { some = omega arith; bytes_of = all_cons is_atext b [] h (all_none is_atext) }

    more : (u : List ℕ) → Atom u → is_atext b ≡ true → Atom (u ++ (b ∷ []))
    more u a h = record { some = omega (arith, length-append u (b ∷ []), a.some); bytes_of = all_join is_atext u (b ∷ []) a.bytes_of (one h).bytes_of }

    never : (k : Atoms) → atom_step k b ≡ Failed → fold atom_step (atom_step k b) s ≡ Within → ⊥
    never k e h = let z = ap (λ (j : Atoms). fold atom_step j s) e ∙ step_failed s in let f : Failed ≡ Within = sym z ∙ h in cc

    by : (t : Bool) → eqb b 46 ≡ t → (q : Bool) → is_atext b ≡ q → Both s → Both (b ∷ s)
    by true e q f ih = record {
      before = λ h. absurd (never Before (dot_first b (ap is_atext (eqb-true b 46 e) ∙ no_dot)) h);
      inside = λ u a h. subst (λ (x : ℕ). DotAtomText (u ++ (x ∷ s))) (sym (eqb-true b 46 e)) (dotted a (ih.before (ap (λ (k : Atoms). fold atom_step k s) (sym (dot_second b e)) ∙ h)));
    }
    by false e true f ih = record {
      before = λ h. ih.inside (b ∷ []) (one f) (ap (λ (k : Atoms). fold atom_step k s) (sym (step_before b f)) ∙ h);
      inside = λ u a h. subst (λ (t : List ℕ). DotAtomText t) (append_assoc u (b ∷ []) s)
          (ih.inside (u ++ (b ∷ [])) (more u a f) (ap (λ (k : Atoms). fold atom_step k s) (sym (step_within b f)) ∙ h));
    }
    by false e false f ih = record {
      before = λ h. absurd (never Before (dot_first b f) h);
      inside = λ u a h. absurd (never Within (step_none b e f) h);
    }

pub dot_sound : (s : List ℕ) → is_dot_atom_text s ≡ true → DotAtomText s
unfolding is_dot_atom_text
dot_sound s h = (state_sound s).before (is_within_true (fold atom_step Before s) h)

-- `is_dot_atom_text`
module _ (s : List ℕ) (i : ℕ) (state : Atoms) (inv : fold atom_step state (drop i s) ≡ fold atom_step Before s) (h : length s ≤ i) where
  ended : is_within state ≡ is_dot_atom_text s
  unfolding is_dot_atom_text
  ended = ap is_within (fold_end atom_step s i state (fold atom_step Before s) inv h)

  pub dot_yes : state ≡ Within → true ≡ is_dot_atom_text s
  unfolding is_within
  dot_yes e = sym (ap is_within e) ∙ ended

  pub dot_no : (state ≡ Within → ⊥) → false ≡ is_dot_atom_text s
  dot_no n = sym (test_fails (is_within state) (λ t. n (is_within_true state t))) ∙ ended

pub dot_plain : {s : List ℕ} → DotAtomText s → all is_plain s ≡ true
unfolding is_plain
dot_plain {s} (last a) = all_inside is_atext is_plain (λ b h. or_left (is_atext b) (eqb b 46) h) s a.bytes_of
dot_plain (dotted {u} {w} a d) = all_join_by is_plain u 46 w (all_inside is_atext is_plain (λ b h. or_left (is_atext b) (eqb b 46) h) u a.bytes_of) (or_right (is_atext 46) true refl) (dot_plain d)
