-- The ways out of the functions that read a record, each with a rule whose premises are what the code knows there, and that a term's next
-- place lies further on. From the definitions of Reader, the laws of runs, where terms stand, and what Terms and Records say of the answers.
use Rattle.records.specs.declared.Reason.{Reason}
use Rattle.std.proofs.Common.{None, Option, Some, Ok, Err}
use Prim.Native.Nat.{ℕ, zero, suc, ◌+◌, ◌-◌, ◌≤◌, ◌<◌}
use mathlib.Core.Path.{◌≡◌, refl, sym, ap, ◌∙◌}
use mathlib.Core.List.{List, []}
use mathlib.Core.Bool.{Bool, true, false, ◌&&◌, ◌||◌}
use native.Mathlib.Omega.{arith}
use native.Mathlib.Nat.{sub_self}
use lib.ListN.{length}
use lib.Dec.{eqb}
use borrow.Author.Tests.{eq-eqb, ne_eqb, eqb-true, le-ltb}
use Rattle.address.specs.declared.Address.{Address}
use Rattle.address.specs.declared.Address.TheVariants.{IPv4, IPv6}
use Rattle.text.specs.Bytes.{at, part}
use Rattle.text.specs.Lists.{same_word}
use Rattle.text.specs.Texts.{bytes}
use Rattle.text.specs.Runs.{is_in, run_end}
use Rattle.text.specs.declared.bytes.Class.TheVariants.{Space, NotSpace}
use Rattle.text.proofs.Laws.Tests.{cond-elim}
use Rattle.text.proofs.Laws.Spans.{part_past}
use Rattle.records.specs.Readings.{Optional, absent, present, bytes_or, argument_bytes}
use Rattle.records.specs.declared.Term.{Term}
use Rattle.records.specs.Numbers.{optional, network_said, said_of, TermAnswer, RecordAnswer, term_at, refusal}
use Rattle.records.specs.Answers.{most_bytes, ReadsArgument}
use Rattle.records.specs.Reader.{token_of, token_answer, term_from, read_term, is_redirect, is_explanation, check_after, check_from, has_version, read_record, after_version}
use Rattle.records.proofs.Laws.Arguments.{stands}
use Rattle.records.proofs.Laws.Terms.{read_long, read_past}
use Rattle.records.proofs.Laws.Walks.{check_twice, check_on}
use Rattle.records.proofs.Laws.Records.{read_record_long, read_record_other, read_record_terms}
use Rattle.records.proofs.Laws.Versions.{version_of, version_inside}

-- `term_from`
pub from_end : (s : List ℕ) (p : ℕ) → p ≡ length s → Ok None ≡ term_from s p
unfolding term_from
from_end s p h = sym (simp (eq-eqb p (length s) h))

module _ (s : List ℕ) (p : ℕ) (some : p ≡ length s → ⊥) (e : ℕ) (q : e ≡ run_end (is_in NotSpace) s p) (x : Option Term) (h : x ≡ token_of (part s p e)) where
  from : term_from s p ≡ token_answer p e x
  unfolding term_from
  from = simp (ne_eqb p (length s) some, h, q)

  pub from_bad : x ≡ None → Err (refusal Reason.Outside p) ≡ term_from s p
  unfolding token_answer
  from_bad f = sym (from ∙ ap (token_answer p e) f)

  pub from_term : (t : Term) → x ≡ Some t → term_at p e t ≡ term_from s p
  unfolding token_answer
  from_term t f = sym (from ∙ ap (token_answer p e) f)

-- `next_term`
module _ (s : List ℕ) (i : ℕ) where
  pub term_long : most_bytes < length s → Err (refusal Reason.TooLong 0) ≡ read_term s i
  term_long h = sym (read_long s i h)

  module _ (short : length s ≤ most_bytes) where
    pub term_past : length s < i → Err (refusal Reason.Beyond i) ≡ read_term s i
    term_past h = sym (read_past s i short h)

    pub term_found : i ≤ length s → (p : ℕ) → p ≡ run_end (is_in Space) s i → (r : TermAnswer) → r ≡ term_from s p → r ≡ read_term s i
    unfolding read_term
    term_found h p q r e = e ∙ sym (simp (le-ltb most_bytes (length s) short, le-ltb (length s) i h, q))

-- the next place of a term lies further on and inside
term_next : (s : List ℕ) (i : ℕ) (r : TermAnswer) → r ≡ read_term s i → (p e : ℕ) (t : Term) → r ≡ term_at p e t → (i < e) × (e ≤ length s)
term_next s i r q p e t h = let k = stands s i p e t (sym q ∙ h) in (omega (arith, k.after, k.some), k.inside)

-- so that what is left to read falls
pub next_less : (s : List ℕ) (i : ℕ) (r : TermAnswer) → r ≡ read_term s i → (p e : ℕ) (t : Term) → r ≡ term_at p e t
    → (m : ℕ) → i ≤ length s → length s - i ≡ m → length s - e < m
next_less s i r q p e t h m l k = let n = term_next s i r q p e t h in omega (arith, n.0, n.1)

-- `value_part`
part_none : (w : List ℕ) → part w (length w) (length w) ≡ []
part_none w = simp (sub_self (length w))

pub value_none : (w : List ℕ) (name to : ℕ) → length w ≤ name → (r : List ℕ) → r ≡ part w (length w) (length w) → r ≡ part w (name + 1) to
value_none w name to h r e = e ∙ part_none w ∙ part_past w (name + 1) (omega arith) to

-- `argument`: the bytes of an argument that may be absent, and of a network's text
pub optional_bytes : (w : List ℕ) (from to : ℕ) → bytes_or (optional w from to) ≡ part w from to
optional_bytes w from to = cond-elim (λ (x : Optional (List ℕ)). bytes_or x ≡ part w from to) (eqb from to) {x = absent} {y = present (part w from to)}
    (λ q. let e = eqb-true from to q in sym (rw (e, sub_self to) refl)) (λ _. refl)

pub network_bytes : (sign : ℕ) (text : List ℕ) (a : Address) (n : ℕ) → argument_bytes (network_said sign text a n) ≡ text
network_bytes sign text (IPv4 v) n = refl
network_bytes sign text (IPv6 h l) n = refl

module _ (s : List ℕ) (i next : ℕ) (w : List ℕ) (p : w ≡ part s i next) (t : Term) (r : List ℕ) where
  pub argument_by : (x : Term) → t ≡ x → r ≡ argument_bytes (said_of w x) → ReadsArgument s i next t r
  argument_by x e h = h ∙ simp (p, e)

  module _ (sign : ℕ) where
    pub argument_all : t ≡ Term.All sign → r ≡ part w (length w) (length w) → ReadsArgument s i next t r
    unfolding said_of
    argument_all e h = argument_by (Term.All sign) e (h ∙ part_none w)

    module _ (from to : ℕ) where
      pub argument_a : (n m : ℕ) → t ≡ Term.A sign from to n m → r ≡ part w from to → ReadsArgument s i next t r
      unfolding said_of
      argument_a n m e h = argument_by (Term.A sign from to n m) e (h ∙ sym (optional_bytes w from to))

      pub argument_mx : (n m : ℕ) → t ≡ Term.Mx sign from to n m → r ≡ part w from to → ReadsArgument s i next t r
      unfolding said_of
      argument_mx n m e h = argument_by (Term.Mx sign from to n m) e (h ∙ sym (optional_bytes w from to))

      pub argument_ptr : t ≡ Term.Ptr sign from to → r ≡ part w from to → ReadsArgument s i next t r
      unfolding said_of
      argument_ptr e h = argument_by (Term.Ptr sign from to) e (h ∙ sym (optional_bytes w from to))

      pub argument_network : (a : Address) (n : ℕ) → t ≡ Term.Network sign from to a n → r ≡ part w from to → ReadsArgument s i next t r
      unfolding said_of
      argument_network a n e h = argument_by (Term.Network sign from to a n) e (h ∙ sym (network_bytes sign (part w from to) a n))

-- `has_version`
module _ (s t : List ℕ) (p : t ≡ part s 0 after_version) (x : Bool) (q : x ≡ same_word t (bytes "v=spf1")) where
  version : same_word (part s 0 after_version) (bytes "v=spf1") ≡ x
  version = ap (λ (u : List ℕ). same_word u (bytes "v=spf1")) (sym p) ∙ sym q

  pub version_alone : x ≡ true → length s ≡ after_version → true ≡ has_version s
  unfolding has_version
  version_alone h e = sym (simp (version ∙ h, eq-eqb (length s) after_version e))

  pub version_space : x ≡ true → (length s ≡ after_version → ⊥) → (b : ℕ) → b ≡ at s after_version → eqb b 32 ≡ has_version s
  unfolding has_version
  version_space h e b g = sym (simp (version ∙ h, ne_eqb (length s) after_version e, g))

  pub version_other : x ≡ false → false ≡ has_version s
  unfolding has_version
  version_other h = sym (simp (version ∙ h))

pub version_read : (s : List ℕ) (x : Bool) → x ≡ has_version s → x ≡ true → after_version ≤ length s
version_read s x p q = version_inside (version_of s (sym p ∙ q))

-- `check_terms`
module _ (s : List ℕ) (i : ℕ) (r e : Bool) (inside : i ≤ length s) (a : TermAnswer) (p : a ≡ read_term s i) where
  check_ended : (x : RecordAnswer) → ((rest : ℕ → Bool → Bool → RecordAnswer) → x ≡ check_after r e a rest) → (f : ℕ) → length s < f + i → x ≡ check_from f s i r e
  unfolding check_from
  check_ended x g zero l = absurd (omega arith)
  check_ended x g (suc f) l = g (check_from f s) ∙ ap (λ (y : TermAnswer). check_after r e y (check_from f s)) p

  module _ (at n : ℕ) (t : Term) (q : a ≡ term_at at n t) (x : Bool) (g : x ≡ ((r && is_redirect t) || (e && is_explanation t))) where
    read : read_term s i ≡ term_at at n t
    read = sym p ∙ q

    check_repeats : x ≡ true → (f : ℕ) → length s < f + i → Err (refusal Reason.Repeated at) ≡ check_from f s i r e
    check_repeats h zero l = absurd (omega arith)
    check_repeats h (suc f) l = sym (check_twice f s i r e at n t read (sym g ∙ h))

    module _ (r' e' : Bool) (hr : r' ≡ (r || is_redirect t)) (he : e' ≡ (e || is_explanation t)) where
      check_next : x ≡ false → (y : RecordAnswer) → ((f : ℕ) → length s < f + n → y ≡ check_from f s n r' e')
          → (f : ℕ) → length s < f + i → y ≡ check_from f s i r e
      check_next h y ih zero l = absurd (omega arith)
      check_next h y ih (suc f) l =
          let k = term_next s i a p at n t q in
          let j : check_from f s n r' e' ≡ check_from f s n (r || is_redirect t) (e || is_explanation t) = simp (hr, he) in
          ih f (omega (arith, k.0)) ∙ j ∙ sym (check_on f s i r e at n t read (sym g ∙ h))

-- part way through the terms: what is answered from here on is answered of all
pub record Checking (s : List ℕ) (i₀ : ℕ) (i : ℕ) (r e : Bool) : Type 0 where
  pub inside : i ≤ length s
  pub rest : (x : RecordAnswer) → ((f : ℕ) → length s < f + i → x ≡ check_from f s i r e) → (f : ℕ) → length s < f + i₀ → x ≡ check_from f s i₀ false false

pub checking_start : (s : List ℕ) (i : ℕ) → i ≤ length s → Checking s i i false false
checking_start s i h = record { inside = h; rest = λ x g. g }

module _ (s : List ℕ) (i₀ i : ℕ) (r e : Bool) (w : Checking s i₀ i r e) where
  module _ (a : TermAnswer) (p : a ≡ read_term s i) where
    pub checking_ended : (x : RecordAnswer) → ((rest : ℕ → Bool → Bool → RecordAnswer) → x ≡ check_after r e a rest)
        → (f : ℕ) → length s < f + i₀ → x ≡ check_from f s i₀ false false
    checking_ended x g = w.rest x (check_ended s i r e w.inside a p x g)

    module _ (at n : ℕ) (t : Term) (q : a ≡ term_at at n t) where
      pub checking_less : length s + 1 - n < length s + 1 - i
      checking_less = let k = term_next s i a p at n t q in omega (arith, k.0, k.1)

      module _ (x : Bool) (g : x ≡ ((r && is_redirect t) || (e && is_explanation t))) where
        pub checking_repeats : x ≡ true → (f : ℕ) → length s < f + i₀ → Err (refusal Reason.Repeated at) ≡ check_from f s i₀ false false
        checking_repeats h = w.rest (Err (refusal Reason.Repeated at)) (check_repeats s i r e w.inside a p at n t q x g h)

        pub checking_next : x ≡ false → (r' e' : Bool) → r' ≡ (r || is_redirect t) → e' ≡ (e || is_explanation t) → Checking s i₀ n r' e'
        checking_next h r' e' hr he = record {
          inside = (term_next s i a p at n t q).1;
          rest = λ y ih. w.rest y (check_next s i r e w.inside a p at n t q x g r' e' hr he h y ih);
        }

-- `open_record`
module _ (s : List ℕ) where
  pub record_long : most_bytes < length s → Err (refusal Reason.TooLong 0) ≡ read_record s
  record_long h = sym (read_record_long s h)

  module _ (short : length s ≤ most_bytes) (x : Bool) (p : x ≡ has_version s) where
    pub record_other : x ≡ false → Err (refusal Reason.NoVersion 0) ≡ read_record s
    record_other h = sym (read_record_other s short (sym p ∙ h))

    pub record_checked : x ≡ true → (r : RecordAnswer) → ((f : ℕ) → length s < f + after_version → r ≡ check_from f s after_version false false) → r ≡ read_record s
    record_checked h r g = g (suc (length s)) (omega arith) ∙ sym (read_record_terms s short (sym p ∙ h))
