-- The terms of a record, one after the other: part way through a record, what is left gives what the whole gives. One rule for each way out of
-- `try_terms`. From the reading of the record, the counts' bounds and the inversions of a term's answer.
use Rattle.std.proofs.Common.{true, false, None, Option, Some, Ok, Err}
use Prim.Native.Nat.{ℕ, zero, suc, ◌+◌, ◌-◌, ◌≤◌, ◌<◌}
use mathlib.Core.Path.{◌≡◌, refl, sym, ap, subst, ◌∙◌}
use mathlib.Core.List.{List, [], ◌∷◌}
use mathlib.Core.Bool.{Bool, cond, ◌||◌}
use mathlib.Core.Logic.{⊎_elim}
use native.Mathlib.Omega.{arith}
use lib.Dec.{eqb}
use lib.ListN.{length}
use Rattle.text.specs.Bytes.{part}
use Rattle.text.specs.Texts.{bytes}
use Rattle.text.specs.declared.spans.Span.{Span}
use Rattle.text.proofs.Laws.Orders.{le_or_lt}
use Rattle.records.specs.Readings.{Optional, absent, present, Placed}
use Rattle.records.specs.Grammar.{is_qualifier}
use Rattle.records.specs.Reader.{read_term}
use Rattle.records.specs.Numbers.{TermAnswer, term_report, said_of}
use Rattle.records.specs.declared.Term.{Term}
use Rattle.records.specs.declared.ReadTerm.{ReadTerm}
use Rattle.records.specs.declared.Refusal.{Refusal}
use Rattle.records.specs.Opening.{argument_in}
use Rattle.records.proofs.Laws.Checking.{next_less}
use Rattle.records.proofs.Laws.Terms.{read_long, read_past}
use Rattle.address.specs.declared.Address.TheVariants.{IPv4, IPv6}
use Rattle.rules.specs.declared.Counts.{Counts}
use Rattle.rules.specs.declared.Wanted.{Wanted}
use Rattle.rules.specs.declared.Ending.{Ending}
use Rattle.rules.specs.declared.FailingPlace.{FailingPlace}
use Rattle.rules.specs.declared.Checked.{Checked}
use Rattle.rules.specs.Tree.{Check, Settled, run}
use Rattle.rules.specs.Tables.{table_in}
use Rattle.rules.specs.Mechanisms.{Mail, yes, no, stop, Step}
use Rattle.rules.specs.Evaluation.{Result, Sub, term_step, sign_result, modifier_of, failing_at, signed, no_match, match_result, after_step, try_terms, terms_after, terms_from, terms_of, whole}
use Rattle.rules.specs.Outcomes.{Settles, Gives, span_of, failing_of, FailingIn, FailingAt, After, Matched, SaysStep, Ends, SaysCheck}
use Rattle.rules.proofs.Laws.Runs.{give_same}
use Rattle.rules.proofs.Laws.Inversions.{step_yes, step_no, step_result, step_wants, checked_give, checked_wanted}
use Rattle.rules.proofs.Laws.Signs.{Signed, read_signed}
use Rattle.rules.proofs.Laws.Steps.{term_then, term_wants, no_bounded}
use Rattle.evaluation.specs.Checks.{ended_of, sign_of, signed_of}

-- a term that is read, as the reading has it
abbrev placed : List ℕ → ReadTerm → Placed
placed s y = record { place = y.at; said = said_of (part s y.at y.next) y.term }

-- part way through a record s of the domain d, from the counts c₀ and the name buffer b on: at a place, with the counts c and the buffer out
pub record Walk (t : List ℕ) (mail : Mail) (d s : List ℕ) (first : ℕ) (b : List ℕ) (c₀ : Counts) (l₀ : Option ℕ) (out : List ℕ) (at : ℕ) (c : Counts) (l : Option ℕ) : Type 0 where
  pub kept : out ≡ b
  pub grows : c₀.lookups ≤ c.lookups
  pub small : c.lookups ≤ 10
  pub few : c.voids ≤ 2
  pub fuel : ℕ
  pub enough : length s < fuel + at
  pub rest : run (table_in t) l (try_terms mail (whole mail) d (terms_of s first) (terms_from fuel s at) c) ≡ run (table_in t) l₀ (try_terms mail (whole mail) d (terms_of s first) (terms_of s first) c₀)

pub walk_start : (t : List ℕ) (mail : Mail) (d s : List ℕ) (first : ℕ) (b : List ℕ) (c : Counts) (l : Option ℕ) → c.lookups ≤ 10 → c.voids ≤ 2 → Walk t mail d s first b c l b first c l
unfolding terms_of
walk_start t mail d s first b c l h v =
    record { kept = refl; grows = omega arith; small = h; few = v; fuel = suc (length s); enough = omega arith; rest = refl }

says_from : (t : List ℕ) (x : Settled Result) (o : After Ends) (b b' a : List ℕ) → SaysCheck t x o b a → b ≡ b' → SaysCheck t x o b' a
says_from t x o b b' a s e = rw (← e) s

-- a term is read only inside the record
pub read_inside : (s : List ℕ) (i : ℕ) (y : ReadTerm) → read_term s i ≡ Ok (Some y) → i ≤ length s
read_inside s i y q =
    ⊎_elim (λ h. h)
    (λ h. absurd (⊎_elim (λ k. none (sym (read_past s i k h) ∙ q)) (λ k. none (sym (read_long s i k) ∙ q)) (le_or_lt (length s) 4096)))
    (le_or_lt i (length s))
  where
    none : {x : Refusal} → Err x ≡ Ok (Some y) → ⊥
    none e = let z : ◌≡◌ {A = ℕ} 0 1 = cc in omega arith

-- the sign of a term, as the reading has it
sign_is : (w : List ℕ) (x : Term) (q : ℕ) → (said_of w x).sign ≡ present q → sign_of x ≡ q
unfolding said_of sign_of
sign_is w (Term.All sign) q e = cc
sign_is w (Term.Include sign from to) q e = cc
sign_is w (Term.A sign from to four six) q e = cc
sign_is w (Term.Mx sign from to four six) q e = cc
sign_is w (Term.Ptr sign from to) q e = cc
sign_is w (Term.Network sign from to (IPv4 v) n) q e = cc
sign_is w (Term.Network sign from to (IPv6 h l) n) q e = cc
sign_is w (Term.Exists sign from to) q e = cc
sign_is w (Term.Redirect from to) q e = let z : ◌≡◌ {A = ℕ} 0 1 = cc in absurd (omega arith)
sign_is w (Term.Explanation from to) q e = let z : ◌≡◌ {A = ℕ} 0 1 = cc in absurd (omega arith)
sign_is w (Term.Unknown n to) q e = let z : ◌≡◌ {A = ℕ} 0 1 = cc in absurd (omega arith)

-- a matching term's result, in a record of these terms whose exp stands in the table
pub record Failable (t : List ℕ) (place : FailingPlace) (ts : List Placed) : Type 0 where
  pub explains : argument_in t place.exp ≡ modifier_of (bytes "exp") ts
  pub failing : FailingIn t place.domain place.exp

signed_says : (t : List ℕ) (place : FailingPlace) (ts : List Placed) → Failable t place ts → (q : ℕ) → is_qualifier q ≡ true
    → (c : Counts) (l : Option ℕ) (rest : Counts → Check Result) (b : List ℕ)
    → SaysCheck t (run (table_in t) l (match_result (span_of t place.domain) ts (sign_result (present q)) c rest))
    (record { answer = Ok (signed_of q place); counts = c; life = l }) b b
unfolding match_result signed sign_result signed_of is_qualifier failing_of FailingAt
signed_says t place ts f q h c l rest b = by (eqb q 43) (eqb q 45) (eqb q 126) (eqb q 63) h
  where
    by : (x y z w : Bool) → (x || (y || (w || z))) ≡ true
        → SaysCheck t (run (table_in t) l (match_result (span_of t place.domain) ts (cond x (present 2) (cond y (present 3) (cond z (present 4) (cond w (present 1) absent)))) c rest))
        (record { answer = Ok (cond x (ended_of 2) (cond y (record { value = 3; failing = Some place }) (cond z (ended_of 4) (ended_of 1)))); counts = c; life = l }) b b
    by true y z w h = checked_give t (table_in t) _ (ended_of 2) c l b (refl, refl) refl tt
    by false true z w h =
        checked_give t (table_in t) _ (record { value = 3; failing = Some place }) c l b
        (refl, ap (λ (e : Optional (List ℕ)). present (failing_at (span_of t place.domain) e)) f.explains) refl f.failing
    by false false true w h = checked_give t (table_in t) _ (ended_of 4) c l b (refl, refl) refl tt
    by false false false true h = checked_give t (table_in t) _ (ended_of 1) c l b (refl, refl) refl tt
    by false false false false h = let z : ◌≡◌ {A = ℕ} 0 1 = cc in absurd (omega arith)

-- only a mechanism matches, and it has a sign
match_says : (t : List ℕ) (mail : Mail) (sub : Sub) (place : FailingPlace) (ts : List Placed) → Failable t place ts
    → (w : List ℕ) (x : Term) (sign : Optional ℕ) → Signed sign → (said_of w x).sign ≡ sign
    → (c k : Counts) (l j : Option ℕ) → Settles (run (table_in t) l (term_step mail sub (span_of t place.domain) (said_of w x) sign c)) (record { match = yes; counts = k }) j
    → (rest : Counts → Check Result) (b : List ℕ)
    → SaysCheck t (run (table_in t) j (match_result (span_of t place.domain) ts (sign_result sign) k rest))
    (record { answer = Ok (signed_of (sign_of x) place); counts = k; life = j }) b b
unfolding term_step
match_says t mail sub place ts f w x absent Signed.none e c k l j h rest b =
    let i : no ≡ yes = ap (λ (o : Step). o.match) (give_same (table_in t) l (record { match = no; counts = c }) (record { match = yes; counts = k }) j h) in
    let z : ◌≡◌ {A = ℕ} 0 1 = cc in
    absurd (omega arith)
match_says t mail sub place ts f w x (present q) (Signed.sign g) e c k l j h rest b = rw (sign_is w x q e) (signed_says t place ts f q g k j rest b)

module _ (t : List ℕ) (mail : Mail) (d s : List ℕ) (first : ℕ) (b : List ℕ) (c₀ : Counts) (l₀ : Option ℕ) (out : List ℕ) (i : ℕ) (c : Counts) (l : Option ℕ) (w : Walk t mail d s first b c₀ l₀ out i c l)
    (a : TermAnswer) (p : a ≡ read_term s i) where
  -- no term is left
  walk_ended_here : ((y : ReadTerm) → a ≡ Ok (Some y) → ⊥) → (o : After Ends) (z : List ℕ)
      → SaysCheck t (run (table_in t) l (no_match mail (whole mail) d (modifier_of (bytes "redirect") (terms_of s first)) c)) o out z
      → SaysCheck t (run (table_in t) l₀ (try_terms mail (whole mail) d (terms_of s first) (terms_of s first) c₀)) o b z
  unfolding try_terms terms_from terms_after
  walk_ended_here h o z g = rw (← w.rest) (says_from t _ o out b z (go w.fuel) w.kept)
    where
      no_term : (x : TermAnswer) → ((y : ReadTerm) → x ≡ Ok (Some y) → ⊥) → (rest : ℕ → List Placed) → terms_after (term_report s x) rest ≡ []
      no_term (Ok (Some y)) h rest = absurd (h y refl)
      no_term (Ok None) h rest = refl
      no_term (Err e) h rest = refl

      ended : (f : ℕ) → terms_after (term_report s (read_term s i)) (terms_from f s) ≡ []
      ended f = ap (λ (x : TermAnswer). terms_after (term_report s x) (terms_from f s)) (sym p) ∙ no_term a h (terms_from f s)

      go : (f : ℕ) → SaysCheck t (run (table_in t) l (try_terms mail (whole mail) d (terms_of s first) (terms_from f s i) c)) o out z
      go zero = g
      go (suc f) = rw (ended f) g

  module _ (y : ReadTerm) (q : a ≡ Ok (Some y)) where
    inside : i ≤ length s
    inside = read_inside s i y (sym p ∙ q)

    -- what is left to read falls
    pub read_less : length s + 1 - y.next < length s + 1 - i
    read_less = let m = next_less s i a p y.at y.next y.term q (length s - i) inside refl in let n = inside in omega arith

    -- one term is read, and a number that is enough for those after it
    onward : (f : ℕ) × (length s < suc f + i)
        × (run (table_in t) l (try_terms mail (whole mail) d (terms_of s first) (placed s y ∷ terms_from f s y.next) c) ≡ run (table_in t) l₀ (try_terms mail (whole mail) d (terms_of s first) (terms_of s first) c₀))
    unfolding terms_from terms_after
    onward = go w.fuel w.enough w.rest
      where
        go : (g : ℕ) → length s < g + i
            → (run (table_in t) l (try_terms mail (whole mail) d (terms_of s first) (terms_from g s i) c) ≡ run (table_in t) l₀ (try_terms mail (whole mail) d (terms_of s first) (terms_of s first) c₀))
            → (f : ℕ) × (length s < suc f + i)
            × (run (table_in t) l (try_terms mail (whole mail) d (terms_of s first) (placed s y ∷ terms_from f s y.next) c) ≡ run (table_in t) l₀ (try_terms mail (whole mail) d (terms_of s first) (terms_of s first) c₀))
        go zero h k = let n = inside in absurd (omega arith)
        go (suc g) h k = (g, h, subst (λ (x : TermAnswer). run (table_in t) l (try_terms mail (whole mail) d (terms_of s first) (terms_after (term_report s x) (terms_from g s)) c) ≡ run (table_in t) l₀ (try_terms mail (whole mail) d (terms_of s first) (terms_of s first) c₀)) (sym p ∙ q) k)

    module _ (v : List ℕ) (e : v ≡ part s y.at y.next) (r : Matched) (k : Counts) (j : Option ℕ) (z : List ℕ)
        (n : SaysStep (run (table_in t) l (term_step mail (whole mail) d (said_of v y.term) (said_of v y.term).sign c)) (record { answer = r; counts = k; life = j }) out z) where
      stepped : SaysStep (run (table_in t) l (term_step mail (whole mail) d (placed s y).said (placed s y).said.sign c)) (record { answer = r; counts = k; life = j }) out z
      stepped = rw (← e) n

      walk_result_here : (u : ℕ) → r ≡ Err (Ending.Result u) → (o : Checked) → o ≡ ended_of u
          → SaysCheck t (run (table_in t) l₀ (try_terms mail (whole mail) d (terms_of s first) (terms_of s first) c₀)) (record { answer = Ok o; counts = k; life = j }) b z
      unfolding after_step failing_of FailingAt
      walk_result_here u f o h =
          let g = step_result _ _ out z stepped u f in
          rw (← onward.2, term_then (table_in t) mail (whole mail) d (terms_of s first) (placed s y) _ c k l j (stop u) g.is, g.kept ∙ w.kept, h)
          (checked_give t (table_in t) _ (ended_of u) k j b (refl, refl) refl tt)

      walk_wants_here : (m : Wanted) → r ≡ Err (Ending.Wanting m)
          → SaysCheck t (run (table_in t) l₀ (try_terms mail (whole mail) d (terms_of s first) (terms_of s first) c₀)) (record { answer = Err m; counts = k; life = j }) b z
      walk_wants_here m f =
          let g = step_wants _ _ out z stepped m f in
          rw (← onward.2)
          (says_from t _ _ out b z
          (checked_wanted t _ m k j out z
          (record { asked = g.asked; is = term_wants (table_in t) mail (whole mail) d (terms_of s first) (placed s y) _ c k l j m.kind g.asked g.is; size_is = g.size_is; buffer = g.buffer }))
          w.kept)

      walk_yes_here : (place : FailingPlace) → Failable t place (terms_of s first) → d ≡ span_of t place.domain → r ≡ Ok true → (o : Checked)
          → o ≡ signed_of (sign_of y.term) place
          → SaysCheck t (run (table_in t) l₀ (try_terms mail (whole mail) d (terms_of s first) (terms_of s first) c₀)) (record { answer = Ok o; counts = k; life = j }) b z
      unfolding after_step
      walk_yes_here place f x h o u =
          let v = step_yes _ _ out z stepped h in
          rw (← onward.2, term_then (table_in t) mail (whole mail) d (terms_of s first) (placed s y) _ c k l j yes v.is, u)
          (says_from t _ _ out b z (shown (try_terms mail (whole mail) d (terms_of s first) (terms_from onward.0 s y.next)) v) w.kept)
        where
          shown : (rest : Counts → Check Result)
              → Gives (run (table_in t) l (term_step mail (whole mail) d (placed s y).said (placed s y).said.sign c)) (record { match = yes; counts = k }) j out z
              → SaysCheck t (run (table_in t) j (match_result d (terms_of s first) (sign_result (placed s y).said.sign) k rest)) (record { answer = Ok (signed_of (sign_of y.term) place); counts = k; life = j }) out z
          shown rest v =
              let g = match_says t mail (whole mail) place (terms_of s first) f (part s y.at y.next) y.term _ (read_signed s i y.at y.next y.term (sym p ∙ q)) refl c k l j (rw x at v.is) rest out in
              rw v.kept (rw (← x) at g)

      pub walk_no : r ≡ Ok false → Walk t mail d s first b c₀ l₀ z y.next k j
      unfolding after_step
      walk_no f =
          let o = onward in
          let m = next_less s i a p y.at y.next y.term q (length s - i) inside refl in
          let g = step_no _ _ out z stepped f in
          let x = no_bounded (table_in t) l j c k mail d (said_of (part s y.at y.next) y.term) (said_of (part s y.at y.next) y.term).sign g.is in
          record {
            kept = g.kept ∙ w.kept;
            grows = omega (arith, w.grows, x.lookups_grow);
            small = x.lookups_small w.small;
            few = x.voids_small w.few;
            fuel = o.0;
            enough = omega (arith, o.1);
            rest = sym (term_then (table_in t) mail (whole mail) d (terms_of s first) (placed s y) _ c k l j no g.is) ∙ o.2;
          }

-- neither the end nor a refusal, which no accepted record has, is a term
end_unread : (a : TermAnswer) (x : Option ReadTerm) (y : ReadTerm) → a ≡ Ok x → x ≡ None → a ≡ Ok (Some y) → ⊥
end_unread a x y e h q = let z : ◌≡◌ {A = ℕ} 0 1 = cc in omega arith

refusal_unread : (r : Refusal) (y : ReadTerm) → Err r ≡ Ok (Some y) → ⊥
refusal_unread r y q = let z : ◌≡◌ {A = ℕ} 0 1 = cc in omega arith

-- the ways out, with the record as a part u of the table
module _ (t : List ℕ) (mail : Mail) (d s : List ℕ) (first : ℕ) (b : List ℕ) (c₀ : Counts) (l₀ : Option ℕ) (out : List ℕ) (i : ℕ) (c : Counts) (l : Option ℕ) (w : Walk t mail d s first b c₀ l₀ out i c l)
    (u : List ℕ) (f : s ≡ u) (a : TermAnswer) (p : a ≡ read_term s i) where
  left : ((y : ReadTerm) → a ≡ Ok (Some y) → ⊥) → (m : Option Span) → argument_in u m ≡ modifier_of (bytes "redirect") (terms_of u first)
      → (o : After Ends) (z : List ℕ) → SaysCheck t (run (table_in t) l (no_match mail (whole mail) d (argument_in s m) c)) o out z
      → SaysCheck t (run (table_in t) l₀ (try_terms mail (whole mail) d (terms_of u first) (terms_of u first) c₀)) o b z
  left h m k o z g = rw (← f) (walk_ended_here t mail d s first b c₀ l₀ out i c l w a p h o z (rw (rw (← f) at k) at g))

  pub walk_ended : (x : Option ReadTerm) → a ≡ Ok x → x ≡ None → (m : Option Span) → argument_in u m ≡ modifier_of (bytes "redirect") (terms_of u first)
      → (o : After Ends) (z : List ℕ) → SaysCheck t (run (table_in t) l (no_match mail (whole mail) d (argument_in s m) c)) o out z
      → SaysCheck t (run (table_in t) l₀ (try_terms mail (whole mail) d (terms_of u first) (terms_of u first) c₀)) o b z
  walk_ended x e h = left (λ y. end_unread a x y e h)

  pub walk_refused : (r : Refusal) → a ≡ Err r → (m : Option Span) → argument_in u m ≡ modifier_of (bytes "redirect") (terms_of u first)
      → (o : After Ends) (z : List ℕ) → SaysCheck t (run (table_in t) l (no_match mail (whole mail) d (argument_in s m) c)) o out z
      → SaysCheck t (run (table_in t) l₀ (try_terms mail (whole mail) d (terms_of u first) (terms_of u first) c₀)) o b z
  walk_refused r e = left (λ y q. refusal_unread r y (sym e ∙ q))

  module _ (x : Option ReadTerm) (e : a ≡ Ok x) (y : ReadTerm) (q : x ≡ Some y) where
    is_read : a ≡ Ok (Some y)
    is_read = e ∙ ap Ok q

    pub walk_less : length s + 1 - y.next < length s + 1 - i
    walk_less = read_less t mail d s first b c₀ l₀ out i c l w a p y is_read

    module _ (v : List ℕ) (j : v ≡ part s y.at y.next) (r : Matched) (k : Counts) (n : Option ℕ) (z : List ℕ)
        (m : SaysStep (run (table_in t) l (term_step mail (whole mail) d (said_of v y.term) (said_of v y.term).sign c)) (record { answer = r; counts = k; life = n }) out z) where
      pub walk_result : (g : Ending) → r ≡ Err g → (h : ℕ) → g ≡ Ending.Result h → (o : Checked) (i : ℕ) → o ≡ ended_of i → i ≡ h
          → SaysCheck t (run (table_in t) l₀ (try_terms mail (whole mail) d (terms_of u first) (terms_of u first) c₀)) (record { answer = Ok o; counts = k; life = n }) b z
      walk_result g ge h he o x oe xe = rw (← f) (walk_result_here t mail d s first b c₀ l₀ out i c l w a p y is_read v j r k n z m h (ge ∙ ap Err he) o (oe ∙ ap ended_of xe))

      pub walk_wants : (g : Ending) → r ≡ Err g → (h : Wanted) → g ≡ Ending.Wanting h → (o : Wanted) → o ≡ h
          → SaysCheck t (run (table_in t) l₀ (try_terms mail (whole mail) d (terms_of u first) (terms_of u first) c₀)) (record { answer = Err o; counts = k; life = n }) b z
      walk_wants g ge h he o oe = rw (oe, ← f) (walk_wants_here t mail d s first b c₀ l₀ out i c l w a p y is_read v j r k n z m h (ge ∙ ap Err he))

      pub walk_yes : (place : FailingPlace) → d ≡ span_of t place.domain → Failable t place (terms_of u first) → (g : Bool) → r ≡ Ok g → g ≡ true
          → (o : Checked) → o ≡ signed_of (sign_of y.term) place
          → SaysCheck t (run (table_in t) l₀ (try_terms mail (whole mail) d (terms_of u first) (terms_of u first) c₀)) (record { answer = Ok o; counts = k; life = n }) b z
      walk_yes place de h g ge he o oe =
          rw (← f)
          (walk_yes_here t mail d s first b c₀ l₀ out i c l w a p y is_read v j r k n z m place
          (subst (λ (u : List ℕ). Failable t place (terms_of u first)) (sym f) h) de (ge ∙ ap Ok he) o oe)

      pub walk_on : (g : Bool) → r ≡ Ok g → g ≡ false → Walk t mail d s first b c₀ l₀ z y.next k n
      walk_on g ge he = walk_no t mail d s first b c₀ l₀ out i c l w a p y is_read v j r k n z m (ge ∙ ap Ok he)
