-- Each rule's test holds of a term exactly if the term breaks the rule. From macros' soundness and completeness, for p macros, and what matching says.
use Prim.Native.Nat.{ℕ, ◌+◌, ◌≤◌, ◌<◌}
use mathlib.Core.Path.{◌≡◌, refl, sym, ap, subst, ◌∙◌}
use mathlib.Core.Logic.{◌↔◌}
use mathlib.Core.List.{List, [], ◌∷◌}
use mathlib.Core.Bool.{Bool, true, false, cond, not, ◌||◌}
use native.Mathlib.Omega.{arith}
use lib.Dec.{leb, eqb}
use borrow.Author.Tests.{eqb-true, eq-eqb, ltb-true, lt-ltb, leb-true, le-leb, not-true}
use Rattle.address.specs.declared.Address.{Address}
use Rattle.address.specs.Matching.{matches_at, Matches}
use Rattle.address.proofs.Laws.Matching.{matches_iff}
use Rattle.text.specs.Bytes.{lower}
use Rattle.text.specs.Lists.{same}
use Rattle.text.specs.Texts.{bytes}
use Rattle.text.proofs.Laws.Tests.{and_left, and_right, and_both, or_elim, or_left, or_right, or_false_left, or_false_right, or_false_both, true_false, test_fails}
use Rattle.text.proofs.Laws.Words.{same_true, true_same}
use Rattle.macros.specs.declared.Form.TheVariants.{ModifierValue}
use Rattle.macros.specs.Grammar.{Piece, literal, escape, expand}
use Rattle.macros.specs.Reader.{pieces, is_macro_string, is_p, any_p, uses_p}
use Rattle.macros.proofs.Laws.Soundness.{sound}
use Rattle.macros.proofs.Laws.Completeness.{complete}
use Rattle.records.specs.Readings.{Optional, absent, present, Placed}
use Rattle.records.specs.Grammar.{sign_plus}
use Rattle.publishing.specs.House.{Some, here, later, Among, Mechanism, Named, All, Redirect, RedirectOrExp, letter_p, IsP, WithP, PlusAll, least_4, least_6, Short, SameNetwork, WrongEnd, too_many_bytes, Breach}
use Rattle.publishing.specs.Finding.{any, is_present, is_below, is_exactly, is_mechanism, is_named, is_all, redirects, modifies, has_p, is_plus_all, is_short, same_by, same_network, offends}

-- one of a list is so, and the test that says so
module _ {A : Type 0} (P : A → Type 0) (test : A → Bool) where
  pub any_some : ((x : A) → test x ≡ true → P x) → (xs : List A) → any test xs ≡ true → Some P xs
  unfolding any
  any_some f [] h = let z : ◌≡◌ {A = ℕ} 0 1 = cc in absurd (omega arith)
  any_some f (x ∷ xs) h = or_elim (test x) (any test xs) h (λ e. here (f x e)) (λ e. later (any_some f xs e))

  pub some_any : ((x : A) → P x → test x ≡ true) → {xs : List A} → Some P xs → any test xs ≡ true
  unfolding any
  some_any f (here {x} {xs} h) = or_left (test x) (any test xs) (f x h)
  some_any f (later {x} {xs} h) = or_right (test x) (any test xs) (some_any f h)

-- parts that a term may have
present_is : (o : Optional ℕ) → is_present o ≡ true → (n : ℕ) × (o ≡ present n)
unfolding is_present
present_is absent h = let z : ◌≡◌ {A = ℕ} 0 1 = cc in absurd (omega arith)
present_is (present n) h = (n, refl)

is_present_lem : (o : Optional ℕ) (n : ℕ) → o ≡ present n → is_present o ≡ true
unfolding is_present
is_present_lem o n e = simp e

below_is : (limit : ℕ) (o : Optional ℕ) → is_below limit o ≡ true → (n : ℕ) × (o ≡ present n) × (n < limit)
unfolding is_below
below_is limit absent h = let z : ◌≡◌ {A = ℕ} 0 1 = cc in absurd (omega arith)
below_is limit (present n) h = (n, refl, ltb-true n limit h)

is_below_lem : (limit : ℕ) (o : Optional ℕ) (n : ℕ) → o ≡ present n → n < limit → is_below limit o ≡ true
unfolding is_below
is_below_lem limit o n e h = rw e (lt-ltb n limit h)

exactly_is : (m : ℕ) (o : Optional ℕ) → is_exactly m o ≡ true → o ≡ present m
unfolding is_exactly
exactly_is m absent h = let z : ◌≡◌ {A = ℕ} 0 1 = cc in absurd (omega arith)
exactly_is m (present n) h = ap present (eqb-true n m h)

is_exactly_lem : (m : ℕ) (o : Optional ℕ) → o ≡ present m → is_exactly m o ≡ true
unfolding is_exactly
is_exactly_lem m o e = rw e (eq-eqb m m refl)

-- kinds of terms
pub mechanism_is : (t : Placed) → is_mechanism t ≡ true → Mechanism t
unfolding is_mechanism
mechanism_is t h = let k = present_is t.said.sign h in record { sign = k.0; signed = k.1 }

pub is_mechanism_lem : (t : Placed) → Mechanism t → is_mechanism t ≡ true
unfolding is_mechanism
is_mechanism_lem t m = is_present_lem t.said.sign m.sign m.signed

pub named_is : (name : List ℕ) (t : Placed) → is_named name t ≡ true → Named name t
unfolding is_named
named_is name t h =
    let k = present_is t.said.sign (and_left (is_present t.said.sign) (same t.said.name name) h) in
    record {
      mechanism = record { sign = k.0; signed = k.1 };
      named = same_true t.said.name name (and_right (is_present t.said.sign) (same t.said.name name) h);
    }

pub is_named_lem : (name : List ℕ) (t : Placed) → Named name t → is_named name t ≡ true
unfolding is_named
is_named_lem name t n =
    and_both (is_present t.said.sign) (same t.said.name name)
    (is_present_lem t.said.sign n.mechanism.sign n.mechanism.signed) (true_same t.said.name name n.named)

pub redirect_is : (t : Placed) → redirects t ≡ true → Redirect t
unfolding redirects
redirect_is t h = record { named = same_true t.said.name (bytes "redirect") h }

pub is_redirect_lem : (t : Placed) → Redirect t → redirects t ≡ true
unfolding redirects
is_redirect_lem t r = true_same t.said.name (bytes "redirect") r.named

pub modifier_is : (t : Placed) → modifies t ≡ true → RedirectOrExp t
unfolding modifies
modifier_is t h = or_elim (redirects t) (same t.said.name (bytes "exp")) h
    (λ e. RedirectOrExp.redirect (redirect_is t e))
    (λ e. RedirectOrExp.explanation (same_true t.said.name (bytes "exp") e))

pub is_modifier : (t : Placed) → RedirectOrExp t → modifies t ≡ true
unfolding modifies
is_modifier t (RedirectOrExp.redirect r) = or_left (redirects t) (same t.said.name (bytes "exp")) (is_redirect_lem t r)
is_modifier t (RedirectOrExp.explanation e) =
    or_right (redirects t) (same t.said.name (bytes "exp")) (true_same t.said.name (bytes "exp") e)

-- p macros
p_is : (x : Piece) → is_p x ≡ true → IsP x
unfolding is_p
p_is (literal b) h = let z : ◌≡◌ {A = ℕ} 0 1 = cc in absurd (omega arith)
p_is (escape b) h = let z : ◌≡◌ {A = ℕ} 0 1 = cc in absurd (omega arith)
p_is (expand m) h = IsP.p (eqb-true (lower m.letter) letter_p h)

is_p_lem : (x : Piece) → IsP x → is_p x ≡ true
unfolding is_p
is_p_lem (expand m) (IsP.p e) = eq-eqb (lower m.letter) letter_p e
is_p_lem (literal _) h = elim h [ ]
is_p_lem (escape _) h = elim h [ ]

any_p_lem : (ps : List Piece) → any_p ps ≡ any is_p ps
unfolding any_p any
any_p_lem [] = refl
any_p_lem (x ∷ ps) = ap (λ (b : Bool). is_p x || b) (any_p_lem ps)

with_p_by : (t : Placed) (o : Optional (List ℕ)) → t.said.argument ≡ o → has_p o ≡ true → WithP t
unfolding has_p uses_p
with_p_by t absent e h = let z : ◌≡◌ {A = ℕ} 0 1 = cc in absurd (omega arith)
with_p_by t (present d) e h =
    let a = and_left (is_macro_string ModifierValue d) (any_p (pieces ModifierValue d).list) h in
    let b = and_right (is_macro_string ModifierValue d) (any_p (pieces ModifierValue d).list) h in
    record {
      text = d;
      pieces = (pieces ModifierValue d).list;
      argument = e;
      string = sound ModifierValue d a;
      some = any_some IsP is_p p_is (pieces ModifierValue d).list (sym (any_p_lem (pieces ModifierValue d).list) ∙ b);
    }

is_with_p : (t : Placed) → WithP t → has_p t.said.argument ≡ true
unfolding has_p uses_p
is_with_p t w =
    let c = complete ModifierValue w.text w.pieces w.string in
    rw w.argument (and_both (is_macro_string ModifierValue w.text) (any_p (pieces ModifierValue w.text).list) c.0
    (ap any_p c.1 ∙ any_p_lem w.pieces ∙ some_any IsP is_p is_p_lem w.some))

plus_is : (t : Placed) → is_plus_all t ≡ true → PlusAll t
unfolding is_plus_all
plus_is t h =
    record {
      signed = exactly_is sign_plus t.said.sign (and_left (is_exactly sign_plus t.said.sign) (same t.said.name (bytes "all")) h);
      named = same_true t.said.name (bytes "all") (and_right (is_exactly sign_plus t.said.sign) (same t.said.name (bytes "all")) h);
    }

is_plus : (t : Placed) → PlusAll t → is_plus_all t ≡ true
unfolding is_plus_all
is_plus t p =
    and_both (is_exactly sign_plus t.said.sign) (same t.said.name (bytes "all"))
    (is_exactly_lem sign_plus t.said.sign p.signed) (true_same t.said.name (bytes "all") p.named)

short_is : (t : Placed) → is_short t ≡ true → Short t
unfolding is_short
short_is t h = or_elim (is_below least_4 t.said.four) (is_below least_6 t.said.six) h
    (λ e. let k = below_is least_4 t.said.four e in Short.four k.1 k.2)
    (λ e. let k = below_is least_6 t.said.six e in Short.six k.1 k.2)

is_short_lem : (t : Placed) → Short t → is_short t ≡ true
unfolding is_short
is_short_lem t (Short.four {n} e h) = or_left (is_below least_4 t.said.four) (is_below least_6 t.said.six) (is_below_lem least_4 t.said.four n e h)
is_short_lem t (Short.six {n} e h) = or_right (is_below least_4 t.said.four) (is_below least_6 t.said.six) (is_below_lem least_6 t.said.six n e h)

-- networks
pub record Same (x y : Optional Address) (k l : Optional ℕ) : Type 0 where
  pub a : Address
  pub b : Address
  pub n : ℕ
  pub first : x ≡ present a
  pub second : y ≡ present b
  pub size : k ≡ present n
  pub other : l ≡ present n
  pub matches : Matches a b n

same_is : (x y : Optional Address) (k l : Optional ℕ) → same_by x y k l ≡ true → Same x y k l
unfolding same_by
same_is (present a) (present b) (present n) (present m) h =
    record {
      a = a;
      b = b;
      n = n;
      first = refl;
      second = refl;
      size = refl;
      other = ap present (sym (eqb-true n m (and_left (eqb n m) (matches_at a b n) h)));
      matches = (matches_iff a b n).0 (and_right (eqb n m) (matches_at a b n) h);
    }
same_is (present a) (present b) (present n) absent h = let z : ◌≡◌ {A = ℕ} 0 1 = cc in absurd (omega arith)
same_is (present a) (present b) absent m h = let z : ◌≡◌ {A = ℕ} 0 1 = cc in absurd (omega arith)
same_is (present a) absent n m h = let z : ◌≡◌ {A = ℕ} 0 1 = cc in absurd (omega arith)
same_is absent b n m h = let z : ◌≡◌ {A = ℕ} 0 1 = cc in absurd (omega arith)

is_same : (x y : Optional Address) (k l : Optional ℕ) (a b : Address) (n : ℕ) → x ≡ present a → y ≡ present b → k ≡ present n → l ≡ present n → Matches a b n
    → same_by x y k l ≡ true
unfolding same_by
is_same x y k l a b n e f g i m = rw (e, f, g, i) (and_both (eqb n n) (matches_at a b n) (eq-eqb n n refl) ((matches_iff a b n).1 m))

network_is : (t u : Placed) → same_network t u ≡ true → SameNetwork t u
unfolding same_network
network_is t u h = or_elim (same_by t.said.address u.said.address t.said.four u.said.four)
    (same_by t.said.address u.said.address t.said.six u.said.six) h
    (λ e. let k = same_is t.said.address u.said.address t.said.four u.said.four e in SameNetwork.four k.first k.second k.size k.other k.matches)
    (λ e. let k = same_is t.said.address u.said.address t.said.six u.said.six e in SameNetwork.six k.first k.second k.size k.other k.matches)

is_network : (t u : Placed) → SameNetwork t u → same_network t u ≡ true
unfolding same_network
is_network t u (SameNetwork.four {a} {b} {n} e f g i m) =
    or_left (same_by t.said.address u.said.address t.said.four u.said.four) (same_by t.said.address u.said.address t.said.six u.said.six)
    (is_same t.said.address u.said.address t.said.four u.said.four a b n e f g i m)
is_network t u (SameNetwork.six {a} {b} {n} e f g i m) =
    or_right (same_by t.said.address u.said.address t.said.four u.said.four) (same_by t.said.address u.said.address t.said.six u.said.six)
    (is_same t.said.address u.said.address t.said.six u.said.six a b n e f g i m)

pub alls : (ts : List Placed) → any is_all ts ≡ true → Some All ts
alls ts h = any_some All is_all (named_is (bytes "all")) ts h

pub all_any : {ts : List Placed} → Some All ts → any is_all ts ≡ true
all_any s = some_any All is_all (is_named_lem (bytes "all")) s

-- the rules
by_rule_lem : (P : ℕ → Type 0) (r k : ℕ) (x y : Bool) → (x ≡ true → P k) → (y ≡ true → P r) → cond (eqb r k) x y ≡ true → P r
by_rule_lem P r k x y f g h = by (eqb r k) refl h
  where
    by : (b : Bool) → eqb r k ≡ b → cond b x y ≡ true → P r
    by true e i = subst P (sym (eqb-true r k e)) (f i)
    by false e i = g i

-- a term of which a test holds breaks the rule
module _ (ts before : List Placed) (t : Placed) (size name : ℕ) (here : Among ts before t) where
  abbrev Breaks : ℕ → Type 0
  Breaks rule = Breach ts size name rule t.place

  pub offends_breach : (rule : ℕ) → offends rule ts before t ≡ true → Breaks rule
  unfolding offends
  offends_breach rule h =
      by_rule_lem Breaks rule 1 _ _ (λ e. Breach.ptr here (named_is (bytes "ptr") t e))
      (by_rule_lem Breaks rule 2 _ _ (λ e. Breach.p_macro here (with_p_by t t.said.argument refl e))
      (by_rule_lem Breaks rule 3 _ _ (λ e. Breach.wrong_end (WrongEnd.again here (named_is (bytes "all") t (and_right (any is_all before) (is_all t) e))
      (alls before (and_left (any is_all before) (is_all t) e))))
      (by_rule_lem Breaks rule 4 _ _ (λ e. Breach.beside_all here (redirect_is t (and_right (any is_all ts) (redirects t) e)) (alls ts (and_left (any is_all ts) (redirects t) e)))
      (by_rule_lem Breaks rule 5 _ _ (λ e. Breach.after_all here (mechanism_is t (and_right (any is_all before) (is_mechanism t) e)) (alls before (and_left (any is_all before) (is_mechanism t) e)))
      (by_rule_lem Breaks rule 6 _ _ (λ e. Breach.after_modifier here
      (λ m. true_false (modifies t) (is_modifier t m) (not-true (modifies t) (and_right (any modifies before) (not (modifies t)) e)))
      (any_some RedirectOrExp modifies modifier_is before (and_left (any modifies before) (not (modifies t)) e)))
      (by_rule_lem Breaks rule 7 _ _ (λ e. Breach.plus_all here (plus_is t e))
      (by_rule_lem Breaks rule 8 _ _ (λ e. Breach.short here (short_is t e))
      (by_rule_lem Breaks rule 9 _ _ (λ e. Breach.equal_network here (any_some (SameNetwork t) (same_network t) (network_is t) before e))
      (λ e. let z : ◌≡◌ {A = ℕ} 0 1 = cc in absurd (omega arith)))))))))) h

-- whether the record's length is a breach of a rule
unfoldable pub end_test : List Placed → ℕ → ℕ → ℕ → Bool
end_test ts size name rule = cond (eqb rule 3) (not (any is_all ts || any redirects ts)) (cond (eqb rule 10) (leb too_many_bytes (name + size)) false)

pub end_breach : (ts : List Placed) (size name rule : ℕ) → end_test ts size name rule ≡ true → Breach ts size name rule size
unfolding end_test
end_breach ts size name rule h =
    by_rule_lem (λ r. Breach ts size name r size) rule 3 _ _
    (λ e. let n = not-true (any is_all ts || any redirects ts) e in
    Breach.wrong_end (WrongEnd.missing
    (λ s. true_false (any is_all ts) (all_any s) (or_false_left (any is_all ts) (any redirects ts) n))
    (λ s. true_false (any redirects ts) (some_any Redirect redirects is_redirect_lem s) (or_false_right (any is_all ts) (any redirects ts) n))))
    (by_rule_lem (λ r. Breach ts size name r size) rule 10 _ _ (λ e. Breach.long (leb-true too_many_bytes (name + size) e))
    (λ e. let z : ◌≡◌ {A = ℕ} 0 1 = cc in absurd (omega arith))) h

-- where a breach comes from: a term of which the rule's test holds, or the record's length
pub data Source (ts : List Placed) (size name rule : ℕ) : ℕ → Type 0 where
  of_term : {before : List Placed} {t : Placed} → 0 < rule → rule ≤ 9 → Among ts before t → offends rule ts before t ≡ true → Source ts size name rule t.place
  of_end : 0 < rule → rule ≤ 10 → end_test ts size name rule ≡ true → Source ts size name rule size

pub source : {ts : List Placed} {size name rule place : ℕ} → Breach ts size name rule place → Source ts size name rule place
unfolding offends end_test
source (Breach.ptr {t = t} a n) = Source.of_term (omega arith) (omega arith) a (is_named_lem (bytes "ptr") t n)
source (Breach.p_macro {t = t} a w) = Source.of_term (omega arith) (omega arith) a (is_with_p t w)
source {ts} {size} {name} (Breach.wrong_end (WrongEnd.missing n r)) =
    Source.of_end (omega arith) (omega arith)
    (ap not (or_false_both (any is_all ts) (any redirects ts) (test_fails (any is_all ts) (λ e. n (alls ts e)))
    (test_fails (any redirects ts) (λ e. r (any_some Redirect redirects redirect_is ts e)))))
source (Breach.wrong_end (WrongEnd.again {before} {t} a n s)) =
    Source.of_term (omega arith) (omega arith) a (and_both (any is_all before) (is_all t) (all_any s) (is_named_lem (bytes "all") t n))
source {ts} (Breach.beside_all {t = t} a r s) = Source.of_term (omega arith) (omega arith) a (and_both (any is_all ts) (redirects t) (all_any s) (is_redirect_lem t r))
source (Breach.after_all {before} {t} a m s) =
    Source.of_term (omega arith) (omega arith) a (and_both (any is_all before) (is_mechanism t) (all_any s) (is_mechanism_lem t m))
source (Breach.after_modifier {before} {t} a m s) =
    Source.of_term (omega arith) (omega arith) a (and_both (any modifies before) (not (modifies t)) (some_any RedirectOrExp modifies is_modifier s)
    (ap not (test_fails (modifies t) (λ e. m (modifier_is t e)))))
source (Breach.plus_all {t = t} a p) = Source.of_term (omega arith) (omega arith) a (is_plus t p)
source (Breach.short {t = t} a s) = Source.of_term (omega arith) (omega arith) a (is_short_lem t s)
source (Breach.equal_network {t = t} a s) = Source.of_term (omega arith) (omega arith) a (some_any (SameNetwork t) (same_network t) (is_network t) s)
source {name = name} {place = place} (Breach.long h) = Source.of_end (omega arith) (omega arith) (le-leb too_many_bytes (name + place) h)

-- networks, by the test
pub same_test : (t : Placed) (before : List Placed) → (any (same_network t) before ≡ true) ↔ Some (SameNetwork t) before
same_test t before = (any_some (SameNetwork t) (same_network t) (network_is t) before, λ s. some_any (SameNetwork t) (same_network t) (is_network t) s)
