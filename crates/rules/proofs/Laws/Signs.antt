-- A mechanism that is read has one of the four signs, and a modifier has none; so a match always gives a result. From the productions.
use Rattle.std.proofs.Common.{Ok, Some}
use Prim.Native.Nat.{ℕ}
use mathlib.Core.Path.{◌≡◌, refl, ap}
use mathlib.Core.List.{List, [], ◌∷◌}
use mathlib.Core.Bool.{Bool, true, false, cond, ◌||◌}
use native.Mathlib.Omega.{arith}
use lib.Dec.{eqb}
use Rattle.text.specs.Bytes.{part}
use Rattle.records.specs.Readings.{Optional, absent, present, Said, Placed}
use Rattle.records.specs.Grammar.{is_qualifier, Mechanism, all_term, include, a, mx, ptr, ip4, ip6, exists, Modifier, redirect, explanation, unknown, unsigned, signed, TermText, directive, modifier_term, Terms, done, term as term_made, Record, spf1, sign_plus, sign_minus, sign_tilde, sign_question}
use Rattle.records.specs.Reader.{read_term}
use Rattle.records.specs.Numbers.{term_report, said_of}
use Rattle.records.specs.declared.Term.{Term}
use Rattle.records.proofs.Laws.Terms.{found}
use Rattle.rules.specs.Results.{result_pass, result_fail, result_softfail, result_neutral}
use Rattle.rules.specs.Evaluation.{sign_result}

-- one of the four signs, or none
pub data Signed : Optional ℕ → Type 0 where
  none : Signed absent
  sign : {q : ℕ} → is_qualifier q ≡ true → Signed (present q)

mechanism_signed : {q : ℕ} {w : List ℕ} {x : Said} → is_qualifier q ≡ true → Mechanism q w x → Signed x.sign
mechanism_signed h (all_term l) = sign h
mechanism_signed h (include l d) = sign h
mechanism_signed h (a l u n) = sign h
mechanism_signed h (mx l u n) = sign h
mechanism_signed h (ptr l u) = sign h
mechanism_signed h (ip4 l t n) = sign h
mechanism_signed h (ip6 l t n) = sign h
mechanism_signed h (exists l d) = sign h

modifier_signed : {w : List ℕ} {x : Said} → Modifier w x → Signed x.sign
modifier_signed (redirect l d) = none
modifier_signed (explanation l d) = none
modifier_signed (unknown n r v) = none

pub term_signed : {w : List ℕ} {x : Said} → TermText w x → Signed x.sign
unfolding is_qualifier
term_signed (directive (unsigned m)) = mechanism_signed refl m
term_signed (directive (signed h m)) = mechanism_signed h m
term_signed (modifier_term m) = modifier_signed m

-- the term that is read at a place
pub read_signed : (s : List ℕ) (i at next : ℕ) (x : Term) → read_term s i ≡ Ok (Some (record { at = at; next = next; term = x })) → Signed (said_of (part s at next) x).sign
read_signed s i at next x e = term_signed (found s i next (record { place = at; said = said_of (part s at next) x }) (ap (term_report s) e)).text

-- all terms of a reading
pub data AllSigned : List Placed → Type 0 where
  none : AllSigned []
  more : {x : Placed} {ts : List Placed} → Signed x.said.sign → AllSigned ts → AllSigned (x ∷ ts)

terms_signed : {p : ℕ} {w : List ℕ} {ts : List Placed} → Terms p w ts → AllSigned ts
terms_signed (done h) = AllSigned.none
terms_signed (term_made u w h m r) = more (term_signed m) (terms_signed r)

pub reading_signed : {s : List ℕ} {ts : List Placed} → Record s ts → AllSigned ts
reading_signed (spf1 l t o) = terms_signed t

-- one of the four signs has a result
pub sign_result_lem : (q : ℕ) → is_qualifier q ≡ true → (v : ℕ) × (sign_result (present q) ≡ present v)
unfolding is_qualifier sign_result
sign_result_lem q h = by (eqb q sign_plus) (eqb q sign_minus) (eqb q sign_question) (eqb q sign_tilde) h
  where
    by : (a b c d : Bool) → (a || (b || (c || d))) ≡ true
        → (v : ℕ) × (cond a (present result_pass) (cond b (present result_fail) (cond d (present result_softfail) (cond c (present result_neutral) absent))) ≡ present v)
    by true b c d h = (_, refl)
    by false true c d h = (_, refl)
    by false false c true h = (_, refl)
    by false false true false h = (_, refl)
    by false false false false h = let z : ◌≡◌ {A = ℕ} 0 1 = cc in absurd (omega arith)
