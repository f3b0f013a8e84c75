-- The modifiers met, with one more term: the ways out of `modifier_at`, `is_met`, `repeats` and `note`, and that the places noted are where the
-- modifiers stand. From the definitions of Opening and the laws of Standing, by whether the term is a redirect, an exp or neither.
use Rattle.std.proofs.Common.{None, Option, Some}
use Prim.Native.Nat.{ℕ, ◌+◌, ◌<◌}
use mathlib.Core.Path.{◌≡◌, refl, sym, ap, ◌∙◌}
use mathlib.Core.List.{List}
use mathlib.Core.Bool.{Bool, true, false, not, cond, ◌||◌, and-true, and-false, or-true, or-false}
use native.Mathlib.Omega.{arith}
use mir.Syntax.{w64}
use mir.Val.{Fits}
use lib.Dec.{eqb}
use borrow.Author.Tests.{eq-eqb, ne_eqb}
use Rattle.text.specs.Bytes.{part}
use Rattle.text.specs.Texts.{bytes}
use Rattle.records.specs.Numbers.{said_of, term_at}
use Rattle.records.specs.Reader.{read_term, is_redirect, is_explanation}
use Rattle.records.specs.declared.Term.{Term}
use Rattle.text.specs.declared.spans.Span.{Span}
use Rattle.records.specs.declared.opening.Modifiers.{Modifiers}
use Rattle.records.specs.declared.opening.Met.{Met}
use Rattle.records.specs.Opening.{modifier_at, modifiers_of, is_met, repeated_by, noted, NoteFits, span}
use Rattle.records.proofs.Laws.Tokens.{redirect_name, explanation_name}
use Rattle.records.proofs.Laws.Arguments.{stands, redirect_argument, explanation_argument}
use Rattle.records.proofs.Laws.Standing.{Sought, sought_other, sought_here}

-- a term that is neither is passed over
pub record Neither (t : Term) : Type 0 where
  no_redirect : is_redirect t ≡ false
  no_exp : is_explanation t ≡ false
  kept : (m : Modifiers) (p : ℕ) → noted m p t ≡ m

-- a term is a redirect, an exp, or neither
pub data Case : Term → Type 0 where
  redirect : {from to : ℕ} → Case (Term.Redirect from to)
  exp : {from to : ℕ} → Case (Term.Explanation from to)
  neither : {t : Term} → Neither t → Case t

pub case_of : (t : Term) → Case t
unfolding is_redirect is_explanation noted
case_of (Term.Redirect from to) = redirect
case_of (Term.Explanation from to) = exp
case_of (Term.All sign) = neither (record { no_redirect = refl; no_exp = refl; kept = λ m p. refl })
case_of (Term.Include sign from to) = neither (record { no_redirect = refl; no_exp = refl; kept = λ m p. refl })
case_of (Term.A sign from to four six) = neither (record { no_redirect = refl; no_exp = refl; kept = λ m p. refl })
case_of (Term.Mx sign from to four six) = neither (record { no_redirect = refl; no_exp = refl; kept = λ m p. refl })
case_of (Term.Ptr sign from to) = neither (record { no_redirect = refl; no_exp = refl; kept = λ m p. refl })
case_of (Term.Network sign from to a n) = neither (record { no_redirect = refl; no_exp = refl; kept = λ m p. refl })
case_of (Term.Exists sign from to) = neither (record { no_redirect = refl; no_exp = refl; kept = λ m p. refl })
case_of (Term.Unknown name to) = neither (record { no_redirect = refl; no_exp = refl; kept = λ m p. refl })

-- as the code tells it
told_neither : {t : Term} → Case t → ((from to : ℕ) → t ≡ Term.Redirect from to → ⊥) → ((from to : ℕ) → t ≡ Term.Explanation from to → ⊥) → Neither t
told_neither redirect h k = absurd (h _ _ refl)
told_neither exp h k = absurd (k _ _ refl)
told_neither (neither n) h k = n

-- a modifier by its place
module _ (m : Span) where
  pub at_none : m.to ≡ 0 → None ≡ modifier_at m
  unfolding modifier_at
  at_none h = sym (simp (eq-eqb m.to 0 h))

  pub at_some : (m.to ≡ 0 → ⊥) → Some m ≡ modifier_at m
  unfolding modifier_at
  at_some h = sym (simp (ne_eqb m.to 0 h))

  pub met_by : not (eqb m.to 0) ≡ is_met (modifier_at m)
  unfolding is_met modifier_at
  met_by = by (eqb m.to 0)
    where
      by : (b : Bool) → not b ≡ is_met (cond b None (Some m))
      by true = refl
      by false = refl

module _ (m : Modifiers) (t : Term) where
  repeats_redirect : (from to : ℕ) → t ≡ Term.Redirect from to → (x : Bool) → x ≡ is_met m.redirect → x ≡ repeated_by m t
  unfolding repeated_by is_redirect is_explanation
  repeats_redirect from to e x h = h ∙ sym (simp (e, and-true, and-false, or-false))

  repeats_exp : (from to : ℕ) → t ≡ Term.Explanation from to → (x : Bool) → x ≡ is_met m.exp → x ≡ repeated_by m t
  unfolding repeated_by is_redirect is_explanation
  repeats_exp from to e x h = h ∙ sym (simp (e, and-true, and-false))

  repeats_neither : ((from to : ℕ) → t ≡ Term.Redirect from to → ⊥) → ((from to : ℕ) → t ≡ Term.Explanation from to → ⊥) → false ≡ repeated_by m t
  unfolding repeated_by
  repeats_neither h k = let n = told_neither (case_of t) h k in sym (simp (n.no_redirect, n.no_exp, and-false))

-- `repeats`, `note`
module _ (m : Met) (t : Term) where
  pub met_redirect : (from to : ℕ) → t ≡ Term.Redirect from to → (x : Bool) → x ≡ is_met (modifier_at m.redirect) → x ≡ repeated_by (modifiers_of m) t
  met_redirect = repeats_redirect (modifiers_of m) t

  pub met_exp : (from to : ℕ) → t ≡ Term.Explanation from to → (x : Bool) → x ≡ is_met (modifier_at m.exp) → x ≡ repeated_by (modifiers_of m) t
  met_exp = repeats_exp (modifiers_of m) t

  pub met_neither : ((from to : ℕ) → t ≡ Term.Redirect from to → ⊥) → ((from to : ℕ) → t ≡ Term.Explanation from to → ⊥) → false ≡ repeated_by (modifiers_of m) t
  met_neither = repeats_neither (modifiers_of m) t

  module _ (p : ℕ) (f : NoteFits p t) where
    part_of : (from to : ℕ) → 0 < to → modifier_at (span (p + from) (p + to)) ≡ Some (span (p + from) (p + to))
    part_of from to h = sym (at_some (span (p + from) (p + to)) (λ z. omega (arith, h, z)))

    pub note_redirect : (from to : ℕ) → t ≡ Term.Redirect from to
        → modifiers_of (record { redirect = span (p + from) (p + to); exp = m.exp }) ≡ noted (modifiers_of m) p t
    unfolding noted
    note_redirect from to e =
        ap (λ (x : Option Span). record { redirect = x; exp = modifier_at m.exp }) (part_of from to (f.redirect from to e).2) ∙ ap (noted (modifiers_of m) p) (sym e)

    pub note_exp : (from to : ℕ) → t ≡ Term.Explanation from to
        → modifiers_of (record { redirect = m.redirect; exp = span (p + from) (p + to) }) ≡ noted (modifiers_of m) p t
    unfolding noted
    note_exp from to e =
        ap (λ (x : Option Span). record { redirect = modifier_at m.redirect; exp = x }) (part_of from to (f.exp from to e).2) ∙ ap (noted (modifiers_of m) p) (sym e)

    pub note_neither : ((from to : ℕ) → t ≡ Term.Redirect from to → ⊥) → ((from to : ℕ) → t ≡ Term.Explanation from to → ⊥)
        → modifiers_of m ≡ noted (modifiers_of m) p t
    note_neither h k = sym ((told_neither (case_of t) h k).kept (modifiers_of m) p)

-- its sums
module _ (p : ℕ) (t : Term) (f : NoteFits p t) (from to : ℕ) where
  pub redirect_from_fits : t ≡ Term.Redirect from to → Fits w64 (p + from)
  redirect_from_fits e = let h = f.redirect from to e in omega (arith, h.0, h.1)

  pub redirect_to_fits : t ≡ Term.Redirect from to → Fits w64 (p + to)
  redirect_to_fits e = let h = f.redirect from to e in omega (arith, h.1)

  pub exp_from_fits : t ≡ Term.Explanation from to → Fits w64 (p + from)
  exp_from_fits e = let h = f.exp from to e in omega (arith, h.0, h.1)

  pub exp_to_fits : t ≡ Term.Explanation from to → Fits w64 (p + to)
  exp_to_fits e = let h = f.exp from to e in omega (arith, h.1)

pub note_fits : (s : List ℕ) (i p n : ℕ) (t : Term) → read_term s i ≡ term_at p n t → NoteFits p t
note_fits s i p n t q = record {
  redirect = λ from to e. let a = redirect_argument s i p n from to (q ∙ ap (term_at p n) e) in (a.order, a.fits, omega (arith, a.first, a.order));
  exp = λ from to e. let a = explanation_argument s i p n from to (q ∙ ap (term_at p n) e) in (a.order, a.fits, omega (arith, a.first, a.order));
}

-- which are met then
module _ (m : Modifiers) (p : ℕ) where
  pub redirect_met : {t : Term} → Case t → is_met (noted m p t).redirect ≡ (is_met m.redirect || is_redirect t)
  unfolding noted is_met is_redirect
  redirect_met redirect = sym (or-true (is_met m.redirect))
  redirect_met exp = sym (or-false (is_met m.redirect))
  redirect_met (neither n) = simp (n.kept m p, n.no_redirect, or-false)

  pub exp_met : {t : Term} → Case t → is_met (noted m p t).exp ≡ (is_met m.exp || is_explanation t)
  unfolding noted is_met is_explanation
  exp_met redirect = sym (or-false (is_met m.exp))
  exp_met exp = sym (or-true (is_met m.exp))
  exp_met (neither n) = simp (n.kept m p, n.no_exp, or-false)

-- and where they stand
module _ (s : List ℕ) (i₀ i p n : ℕ) (m : Modifiers) where
  redirect_other : (t : Term) → read_term s i ≡ term_at p n t → is_redirect t ≡ false → Sought s (bytes "redirect") i₀ i m.redirect
      → Sought s (bytes "redirect") i₀ n m.redirect
  redirect_other t q h w = sought_other s i p n t q (redirect_name (part s p n) t (stands s i p n t q).token ∙ h) w

  exp_other : (t : Term) → read_term s i ≡ term_at p n t → is_explanation t ≡ false → Sought s (bytes "exp") i₀ i m.exp
      → Sought s (bytes "exp") i₀ n m.exp
  exp_other t q h w = sought_other s i p n t q (explanation_name (part s p n) t (stands s i p n t q).token ∙ h) w

  pub redirect_next : {t : Term} → Case t → read_term s i ≡ term_at p n t → repeated_by m t ≡ false → Sought s (bytes "redirect") i₀ i m.redirect
      → Sought s (bytes "redirect") i₀ n (noted m p t).redirect
  unfolding noted said_of is_redirect
  redirect_next (redirect {from = from} {to = to}) q h w =
      let t = Term.Redirect from to in
      sought_here s i p n t q (bytes "redirect") from to refl refl (redirect_argument s i p n from to q)
      (repeats_redirect m t from to refl (is_met m.redirect) refl ∙ h) w
  redirect_next (exp {from = from} {to = to}) q h w = redirect_other (Term.Explanation from to) q refl w
  redirect_next {t} (neither k) q h w = rw (k.kept m p) (redirect_other t q k.no_redirect w)

  pub exp_next : {t : Term} → Case t → read_term s i ≡ term_at p n t → repeated_by m t ≡ false → Sought s (bytes "exp") i₀ i m.exp
      → Sought s (bytes "exp") i₀ n (noted m p t).exp
  unfolding noted said_of is_explanation
  exp_next (redirect {from = from} {to = to}) q h w = exp_other (Term.Redirect from to) q refl w
  exp_next (exp {from = from} {to = to}) q h w =
      let t = Term.Explanation from to in
      sought_here s i p n t q (bytes "exp") from to refl refl (explanation_argument s i p n from to q)
      (repeats_exp m t from to refl (is_met m.exp) refl ∙ h) w
  exp_next {t} (neither k) q h w = rw (k.kept m p) (exp_other t q k.no_exp w)
