-- What a term is, by its case: the tests of what it says, and whether it has a p macro. One rule for each way out of `facts_of`, `short_network` and
-- `has_p`. From the names of records' tokens.
use Rattle.std.proofs.Common.{Some}
use Prim.Native.Nat.{ℕ}
use mathlib.Core.Path.{◌≡◌, refl, sym, ◌∙◌}
use mathlib.Core.List.{List, [], ◌∷◌}
use mathlib.Core.Bool.{Bool, true, false, cond, ◌&&◌, ◌||◌}
use native.Mathlib.Omega.{arith}
use lib.Dec.{ltb, eqb}
use lib.ListN.{length}
use Rattle.address.specs.declared.Address.{Address}
use Rattle.address.specs.declared.Address.TheVariants.{IPv4, IPv6}
use Rattle.text.specs.Lists.{same}
use Rattle.text.specs.Texts.{bytes}
use Rattle.macros.specs.declared.Form.TheVariants.{ModifierValue}
use Rattle.macros.specs.Reader.{is_macro_string, any_p, pieces, piece_of, pieces_after, pieces_from, uses_p}
use Rattle.records.specs.Readings.{Optional, absent, present, bytes_or, argument_bytes, Placed}
use Rattle.records.specs.Grammar.{sign_plus}
use Rattle.records.specs.Numbers.{said_of}
use Rattle.records.specs.Reader.{is_redirect, is_explanation, token_of}
use Rattle.records.specs.declared.Term.{Term}
use Rattle.records.proofs.Laws.Tokens.{redirect_name, explanation_name}
use Rattle.publishing.specs.House.{least_4, least_6}
use Rattle.publishing.specs.Rows.{row_by, rows_of}
use Rattle.publishing.specs.declared.offences.Facts.{Facts}
use Rattle.publishing.specs.Finding.{is_present, is_below, is_exactly, is_mechanism, is_named, is_all, redirects, modifies, has_p, is_plus_all, is_short, short_network, modifier_facts, facts_of}

or_no : (b : Bool) → (b || false) ≡ b
or_no true = refl
or_no false = refl

and_no : (b : Bool) → (b && false) ≡ false
and_no true = refl
and_no false = refl

and_yes : (b : Bool) → (b && true) ≡ b
and_yes true = refl
and_yes false = refl

-- a term by its facts
pub record Right (t : Placed) (f : Facts) : Type 0 where
  pub all : is_all t ≡ f.all
  pub plus : is_plus_all t ≡ f.plus
  pub ptr : is_named (bytes "ptr") t ≡ f.ptr
  pub mechanism : is_mechanism t ≡ f.mechanism
  pub redirect : redirects t ≡ f.redirect
  pub modifier : modifies t ≡ f.modifier
  pub short : is_short t ≡ f.short
  pub network : length (rows_of t) ≡ cond f.network 1 0
  pub other : f.network ≡ false → t.said.address ≡ absent

no_false : true ≡ false → ⊥
no_false e = let z : ◌≡◌ {A = ℕ} 0 1 = cc in omega arith

right : (w : List ℕ) (p : ℕ) (t : Term) → same (said_of w t).name (bytes "redirect") ≡ is_redirect t → same (said_of w t).name (bytes "exp") ≡ is_explanation t
    → Right (record { place = p; said = said_of w t }) (facts_of t)
unfolding row_by is_present is_below is_exactly is_mechanism is_named redirects modifies is_plus_all is_short short_network facts_of said_of same is_redirect is_explanation
right w p (Term.All sign) d e = record { all = refl; plus = and_yes (eqb sign sign_plus); ptr = refl; mechanism = refl; redirect = refl; modifier = refl; short = refl; network = refl; other = λ _. refl }
right w p (Term.Include sign from to) d e = record { all = refl; plus = and_no (eqb sign sign_plus); ptr = refl; mechanism = refl; redirect = refl; modifier = refl; short = refl; network = refl; other = λ _. refl }
right w p (Term.A sign from to n m) d e = record { all = refl; plus = and_no (eqb sign sign_plus); ptr = refl; mechanism = refl; redirect = refl; modifier = refl; short = refl; network = refl; other = λ _. refl }
right w p (Term.Mx sign from to n m) d e = record { all = refl; plus = and_no (eqb sign sign_plus); ptr = refl; mechanism = refl; redirect = refl; modifier = refl; short = refl; network = refl; other = λ _. refl }
right w p (Term.Ptr sign from to) d e = record { all = refl; plus = and_no (eqb sign sign_plus); ptr = refl; mechanism = refl; redirect = refl; modifier = refl; short = refl; network = refl; other = λ _. refl }
right w p (Term.Network sign from to (IPv4 v) n) d e = record { all = refl; plus = and_no (eqb sign sign_plus); ptr = refl; mechanism = refl; redirect = refl; modifier = refl; short = or_no (ltb n least_4); network = refl; other = λ z. absurd (no_false z) }
right w p (Term.Network sign from to (IPv6 h l) n) d e = record { all = refl; plus = and_no (eqb sign sign_plus); ptr = refl; mechanism = refl; redirect = refl; modifier = refl; short = refl; network = refl; other = λ z. absurd (no_false z) }
right w p (Term.Exists sign from to) d e = record { all = refl; plus = and_no (eqb sign sign_plus); ptr = refl; mechanism = refl; redirect = refl; modifier = refl; short = refl; network = refl; other = λ _. refl }
right w p (Term.Redirect from to) d e = record { all = refl; plus = refl; ptr = refl; mechanism = refl; redirect = refl; modifier = refl; short = refl; network = refl; other = λ _. refl }
right w p (Term.Explanation from to) d e = record { all = refl; plus = refl; ptr = refl; mechanism = refl; redirect = refl; modifier = refl; short = refl; network = refl; other = λ _. refl }
right w p (Term.Unknown name to) d e = record { all = refl; plus = refl; ptr = refl; mechanism = refl; redirect = d; modifier = either d e; short = refl; network = refl; other = λ _. refl }
  where
    either : {a b : Bool} → a ≡ false → b ≡ false → (a || b) ≡ false
    either f g = simp (f, g)

pub facts_right : (w : List ℕ) (p : ℕ) (t : Term) → token_of w ≡ Some t → Right (record { place = p; said = said_of w t }) (facts_of t)
facts_right w p t e = right w p t (redirect_name w t e) (explanation_name w t e)

-- `Facts::of`: the facts that hold of no term
pub plain : (f : Facts)
    → (f.all ≡ false) × ((f.plus ≡ false) × ((f.ptr ≡ false) × ((f.mechanism ≡ false) × ((f.redirect ≡ false) × ((f.modifier ≡ false) × ((f.short ≡ false) × (f.network ≡ false)))))))
    → f ≡ modifier_facts false false
plain f h =
    λ t. record {
      all = h.0 t;
      plus = h.1.0 t;
      ptr = h.1.1.0 t;
      mechanism = h.1.1.1.0 t;
      redirect = h.1.1.1.1.0 t;
      modifier = h.1.1.1.1.1.0 t;
      short = h.1.1.1.1.1.1.0 t;
      network = h.1.1.1.1.1.1.1 t;
    }

-- `short_network`
module _ (a : Address) (n : ℕ) where
  pub short_four : (v : ℕ) → a ≡ IPv4 v → ltb n least_4 ≡ short_network a n
  unfolding short_network
  short_four v e = rw e

  pub short_six : (h l : ℕ) → a ≡ IPv6 h l → ltb n least_6 ≡ short_network a n
  unfolding short_network
  short_six h l e = rw e

-- p macros
no_p : (is_macro_string ModifierValue [] && uses_p ModifierValue []) ≡ false
unfolding uses_p pieces pieces_from pieces_after piece_of any_p
no_p = and_no (is_macro_string ModifierValue [])

p_of : (o : Optional (List ℕ)) → has_p o ≡ (is_macro_string ModifierValue (bytes_or o) && uses_p ModifierValue (bytes_or o))
unfolding has_p
p_of absent = sym no_p
p_of (present d) = refl

-- `has_p`, which asks first whether there is an argument, and then for a p macro
pub p_empty : (w : List ℕ) (t : Term) (x : List ℕ) → x ≡ argument_bytes (said_of w t) → length x ≡ 0 → false ≡ has_p (said_of w t).argument
p_empty w t [] a h = sym (p_of (said_of w t).argument ∙ rw (← a) no_p)
p_empty w t (b ∷ x) a h = absurd (omega (arith, h))

module _ (w : List ℕ) (t : Term) (x : List ℕ) (a : x ≡ argument_bytes (said_of w t)) (u : Bool) (e : u ≡ uses_p ModifierValue x) where
  pub p_here : u ≡ true → (m : Bool) → m ≡ is_macro_string ModifierValue x → m ≡ has_p (said_of w t).argument
  p_here h m f = sym (p_of (said_of w t).argument ∙ rw (← a, ← e, h, ← f) (and_yes m))

  pub p_none : u ≡ false → u ≡ has_p (said_of w t).argument
  p_none h = h ∙ sym (p_of (said_of w t).argument ∙ rw (← a, ← e, h) (and_no (is_macro_string ModifierValue x)))
