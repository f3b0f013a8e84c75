-- One term: a run of non-spaces is read as a term exactly if the productions make it, with exactly what they say. From the laws of mechanisms and
-- of modifiers.
use Rattle.std.proofs.Common.{None, Option, Some}
use Prim.Native.Nat.{ℕ, ◌≤◌, ◌<◌}
use mathlib.Core.Path.{◌≡◌, refl, sym, subst}
use mathlib.Core.List.{List, [], ◌∷◌}
use mathlib.Core.Bool.{true, false}
use native.Mathlib.Omega.{arith}
use lib.ListN.{length}
use lib.Dec.{eqb}
use borrow.Author.Tests.{eqb-true}
use Rattle.address.specs.declared.Address.TheVariants.{IPv4, IPv6}
use Rattle.text.specs.Bytes.{at, part, is_not_space}
use Rattle.text.specs.Lists.{all, same, same_word}
use Rattle.text.specs.Texts.{bytes}
use Rattle.text.specs.Runs.{is_in, run, run_end}
use Rattle.text.specs.declared.bytes.Class.TheVariants.{NameByte}
use Rattle.text.proofs.Laws.Tests.{cond-elim}
use Rattle.text.proofs.Laws.Classes.{apart, class_inside}
use Rattle.text.proofs.Laws.Spans.{span_all, span_whole, span_join, span_cut}
use Rattle.records.specs.declared.Term.{Term}
use Rattle.records.specs.Readings.{Said}
use Rattle.records.specs.Grammar.{TermText, directive, modifier_term, unsigned, signed, is_qualifier}
use Rattle.records.specs.Numbers.{said_of}
use Rattle.records.specs.Reader.{kind_of, later_kind, mechanism_by, mechanism_of, modifier_of, token_of, is_redirect, is_explanation}
use Rattle.records.proofs.Laws.Names.{Unreserved, alpha_unsigned, qualifier_zero}
use Rattle.records.proofs.Laws.Specs.{solid_one}
use Rattle.records.proofs.Laws.Mechanisms.{MechanismRight, mechanism_sound, MechanismRead, mechanism_complete, solid_mechanism}
use Rattle.records.proofs.Laws.Modifiers.{ModifierRight, modifier_sound, ModifierRead, modifier_complete, solid_modifier, unreserved_redirect, unreserved_exp}

-- what is read is a term
record TokenMade (w : List ℕ) (t : Term) : Type 0 where
  made : TermText w (said_of w t)
  other : Unreserved w t

abbrev TokenRight : List ℕ → Option Term → Type 0
TokenRight w (Some t) = TokenMade w t
TokenRight w None = Unit {0}

signed_right : (w : List ℕ) → is_qualifier (at w 0) ≡ true → (t : Option Term) → MechanismRight w 1 (at w 0) t → TokenRight w t
signed_right [] h (Some t) m = absurd (omega (arith, class_inside is_qualifier qualifier_zero [] 0 h))
signed_right [] h None m = tt
signed_right (q ∷ w) h (Some t) m =
    let e : q ∷ w ≡ q ∷ m.word = span_whole (span_join {u = q ∷ []} (record { split = refl; size = refl }) m.span) in
    record { made = subst (λ (u : List ℕ). TermText u (said_of (q ∷ w) t)) (sym e) (directive (signed h m.made)); other = m.other }
signed_right (q ∷ w) h None m = tt

unsigned_right : (w : List ℕ) (t : Option Term) → MechanismRight w 0 43 t → TokenRight w t
unsigned_right w (Some t) m =
    record { made = subst (λ (u : List ℕ). TermText u (said_of w t)) (sym (span_whole m.span)) (directive (unsigned m.made)); other = m.other }
unsigned_right w None m = tt

modifier_right : (w : List ℕ) (t : Option Term) → ModifierRight w t → TokenRight w t
modifier_right w (Some t) m = record { made = modifier_term m.made; other = m.other }
modifier_right w None m = tt

-- the ways out of a run of non-spaces
pub token_elim : (w : List ℕ) (P : Option Term → Type 0) → (is_qualifier (at w 0) ≡ true → 1 ≤ length w → P (mechanism_of (at w 0) 1 w))
    → (at w (run_end (is_in NameByte) w 0) ≡ 61 → P (modifier_of (run_end (is_in NameByte) w 0) w)) → P (mechanism_of 43 0 w) → P (token_of w)
unfolding token_of
token_elim w P signs equals plain =
    cond-elim P (is_qualifier (at w 0))
    (λ h. signs h (let i = class_inside is_qualifier qualifier_zero w 0 h in omega arith))
    (λ _. cond-elim P (eqb (at w (run_end (is_in NameByte) w 0)) 61) (λ e. equals (eqb-true (at w (run_end (is_in NameByte) w 0)) 61 e)) (λ _. plain))

token_right : (w : List ℕ) → TokenRight w (token_of w)
token_right w = token_elim w (TokenRight w)
    (λ h i. signed_right w h (mechanism_of (at w 0) 1 w) (mechanism_sound (at w 0) 1 w i))
    (λ e. modifier_right w (modifier_of (run_end (is_in NameByte) w 0) w) (modifier_sound w e))
    (unsigned_right w (mechanism_of 43 0 w) (mechanism_sound 43 0 w (omega arith)))

token_made : (w : List ℕ) (t : Term) → token_of w ≡ Some t → TokenMade w t
token_made w t e = subst (TokenRight w) e (token_right w)

pub token_sound : (w : List ℕ) (t : Term) → token_of w ≡ Some t → TermText w (said_of w t)
token_sound w t e = (token_made w t e).made

pub record TokenRead (w : List ℕ) (x : Said) : Type 0 where
  pub term : Term
  pub read : token_of w ≡ Some term
  pub says : said_of w term ≡ x

unsigned_read : {w : List ℕ} {x : Said} → MechanismRead w 0 43 x → TokenRead w x
unfolding token_of
unsigned_read {w} m = record { term = m.term; read = simp (alpha_unsigned (at w 0) m.letter, m.plain, m.read); says = m.says }

signed_read : {q : ℕ} {w : List ℕ} {x : Said} → is_qualifier q ≡ true → MechanismRead (q ∷ w) 1 q x → TokenRead (q ∷ w) x
unfolding token_of
signed_read h m = record { term = m.term; read = simp (h, m.read); says = m.says }

modifier_read : {w : List ℕ} {x : Said} → ModifierRead w x → TokenRead w x
unfolding token_of
modifier_read {w} m = record { term = m.term; read = simp (alpha_unsigned (at w 0) m.letter, m.equals, m.read); says = m.says }

pub token_complete : {w : List ℕ} {x : Said} → TermText w x → TokenRead w x
token_complete (directive (unsigned {w = w} m)) = unsigned_read (mechanism_complete m w 0 (span_all w))
token_complete (directive (signed {q = q} {w = w} h m)) =
    signed_read h (mechanism_complete m (q ∷ w) 1 (span_cut (q ∷ []) w (span_all (q ∷ w))).1)
token_complete (modifier_term m) = modifier_read (modifier_complete m)

-- a term is not empty and holds no space
pub record Solid (w : List ℕ) : Type 0 where
  pub some : 0 < length w
  pub no_space : all is_not_space w ≡ true

empty_outside : token_of [] ≡ None
unfolding token_of is_qualifier mechanism_of mechanism_by kind_of later_kind same_word same run_end run
empty_outside = refl

some_term : (w : List ℕ) {x : Said} → TermText w x → 0 < length w
some_term [] d =
    let r = (token_complete d).read in
    let z : ◌≡◌ {A = ℕ} 0 1 = cc empty_outside in
    absurd (omega arith)
some_term (b ∷ w) d = omega arith

qualifier_solid : (q : ℕ) → is_qualifier q ≡ true → eqb q 32 ≡ false
unfolding is_qualifier
qualifier_solid q h = apart is_qualifier q 32 h refl

solid_term : {w : List ℕ} {x : Said} → TermText w x → all is_not_space w ≡ true
solid_term (directive (unsigned m)) = solid_mechanism m
solid_term (directive (signed {q = q} {w = w} h m)) = solid_one q w (qualifier_solid q h) (solid_mechanism m)
solid_term (modifier_term m) = solid_modifier m

pub term_solid : {w : List ℕ} {x : Said} → TermText w x → Solid w
term_solid {w} d = record { some = some_term w d; no_space = solid_term d }

-- a redirect or an exp is known by its name
record Told (name : List ℕ) (t : Term) : Type 0 where
  redirect : same name (bytes "redirect") ≡ is_redirect t
  explanation : same name (bytes "exp") ≡ is_explanation t

told : (w : List ℕ) (t : Term) → Unreserved w t → Told (said_of w t).name t
unfolding said_of is_redirect is_explanation same
told w (Term.All sign) u = record { redirect = refl; explanation = refl }
told w (Term.Include sign from to) u = record { redirect = refl; explanation = refl }
told w (Term.A sign from to n m) u = record { redirect = refl; explanation = refl }
told w (Term.Mx sign from to n m) u = record { redirect = refl; explanation = refl }
told w (Term.Ptr sign from to) u = record { redirect = refl; explanation = refl }
told w (Term.Network sign from to (IPv4 v) n) u = record { redirect = refl; explanation = refl }
told w (Term.Network sign from to (IPv6 h l) n) u = record { redirect = refl; explanation = refl }
told w (Term.Exists sign from to) u = record { redirect = refl; explanation = refl }
told w (Term.Redirect from to) u = record { redirect = refl; explanation = refl }
told w (Term.Explanation from to) u = record { redirect = refl; explanation = refl }
told w (Term.Unknown name to) u = record { redirect = unreserved_redirect (part w 0 name) u; explanation = unreserved_exp (part w 0 name) u }

pub redirect_name : (w : List ℕ) (t : Term) → token_of w ≡ Some t → same (said_of w t).name (bytes "redirect") ≡ is_redirect t
redirect_name w t e = (told w t (token_made w t e).other).redirect

pub explanation_name : (w : List ℕ) (t : Term) → token_of w ≡ Some t → same (said_of w t).name (bytes "exp") ≡ is_explanation t
explanation_name w t e = (told w t (token_made w t e).other).explanation
