-- A record has one opening for a client: two places up to which all terms pass, and at which the next doesn't, are the same. And where it is accepted,
-- its modifiers stand at one place each. From the definitions of Opening, the laws of Standing, and that an accepted record has a reading.
use Rattle.records.specs.Numbers.{RecordAnswer, term_at}
use Rattle.std.proofs.Common.{Option, Result, Ok, Err}
use Prim.Native.Nat.{ℕ}
use mathlib.Core.Path.{◌≡◌, refl, sym, ap, subst, ◌∙◌}
use mathlib.Core.List.{List}
use mathlib.Core.Logic.{◌⊎◌, ⊎_elim, inl, inr}
use native.Mathlib.Omega.{arith}
use Rattle.address.specs.declared.Address.{Address}
use Rattle.records.specs.declared.Term.{Term}
use Rattle.records.specs.declared.opening.Unaided.{Unaided}
use Rattle.records.specs.declared.opening.Opening.{Opening}
use Rattle.text.specs.declared.spans.Span.{Span}
use Rattle.records.specs.declared.opening.Reading.{Reading}
use Rattle.records.specs.declared.Refusal.{Refusal}
use Rattle.records.specs.Reader.{read_term, after_version}
use Rattle.records.specs.Opening.{unaided, Passing, Asking, Leads, OpeningOf, answer_of}
use Rattle.records.proofs.Laws.Records.{record_accepting, record_complete}
use Rattle.records.proofs.Laws.Standing.{modifier_at_one}
use Rattle.records.proofs.Laws.Openings.{one_term}

module _ (client : Address) (s : List ℕ) where
  -- the first of the terms that pass
  record First (i k : ℕ) : Type 0 where
    pub place : ℕ
    pub next : ℕ
    pub term : Term
    pub read : read_term s i ≡ term_at place next term
    pub passes : unaided client term ≡ Unaided.Passes
    pub rest : Passing client s next k

  first_of : (i k : ℕ) → Passing client s i k → (i ≡ k) ⊎ First i k
  first_of i k Passing.none = inl refl
  first_of i k (Passing.onward {j = j} {at = at} {x = x} p q e) = ⊎_elim
      (λ h. inr (record { place = at; next = k; term = x; read = ap (read_term s) h ∙ q; passes = e; rest = Passing.none }))
      (λ f. inr (record { place = f.place; next = f.next; term = f.term; read = f.read; passes = f.passes; rest = Passing.onward f.rest q e }))
      (first_of i j p)

  -- of two places up to which terms pass, one is behind the other
  behind : (i j k : ℕ) → Passing client s i j → Passing client s i k → Passing client s j k ⊎ Passing client s k j
  behind i j k Passing.none r = inl r
  behind i j k (Passing.onward {j = l} {at = at} {x = x} p q e) r = ⊎_elim
      (λ t. ⊎_elim
      (λ h. inr (subst (λ (m : ℕ). Passing client s m j) h (Passing.onward Passing.none q e)))
      (λ f. inl (subst (λ (m : ℕ). Passing client s m k) (one_term s l f.place f.next at j f.term x f.read q).0 f.rest))
      (first_of l k t))
      (λ t. inr (Passing.onward t q e))
      (behind i l k p r)

  -- a place whose term doesn't pass is the last
  abbrev Halts : ℕ → Type 0
  Halts j = (at next : ℕ) (x : Term) → read_term s j ≡ term_at at next x → unaided client x ≡ Unaided.Passes → ⊥

  halted : (j k : ℕ) → Halts j → Passing client s j k → j ≡ k
  halted j k h p = ⊎_elim (λ e. e) (λ f. absurd (h f.place f.next f.term f.read f.passes)) (first_of j k p)

  same_place : (i j k : ℕ) → Passing client s i j → Halts j → Passing client s i k → Halts k → j ≡ k
  same_place i j k p h r g = ⊎_elim (λ t. halted j k h t) (λ t. sym (halted k j g t)) (behind i j k p r)

  asking_halts : (j : ℕ) → Asking client s j → Halts j
  asking_halts j a at next x q e = let g = a at next x q in let z : ◌≡◌ {A = ℕ} 0 1 = cc in omega arith

  matching_halts : (j at next sign : ℕ) (x : Term) → read_term s j ≡ term_at at next x → unaided client x ≡ Unaided.Matches sign → Halts j
  matching_halts j at next sign x q e at' next' x' q' e' =
      let g = ap (unaided client) (one_term s j at next at' next' x x' q q').1 in
      let z : ◌≡◌ {A = ℕ} 0 1 = cc in
      omega arith

  -- one opening asks where another matches
  apart : (i j k at next sign : ℕ) (x : Term) → Passing client s i j → Asking client s j → Passing client s i k → read_term s k ≡ term_at at next x
      → unaided client x ≡ Unaided.Matches sign → ⊥
  apart i j k at next sign x p a r q e =
      let h = same_place i j k p (asking_halts j a) r (matching_halts k at next sign x q e) in
      let g = a at next x (ap (read_term s) h ∙ q) in
      let z : ◌≡◌ {A = ℕ} 0 1 = cc in
      omega arith

  leads_one : (i : ℕ) (o o' : Opening) → Leads client s i o → Leads client s i o' → o ≡ o'
  leads_one i o o' (Leads.opened {j = j} p a) (Leads.opened {j = k} r b) = ap Opening.Open (same_place i j k p (asking_halts j a) r (asking_halts k b))
  leads_one i o o' (Leads.opened {j = j} p a) (Leads.matched {j = k} {at = at} {next = next} {sign = sign} {x = x} r q e) = absurd (apart i j k at next sign x p a r q e)
  leads_one i o o' (Leads.matched {j = k} {at = at} {next = next} {sign = sign} {x = x} r q e) (Leads.opened {j = j} p a) = absurd (apart i j k at next sign x p a r q e)
  leads_one i o o' (Leads.matched {j = j} {at = at} {next = next} {sign = sign} {x = x} p q e) (Leads.matched {j = k} {at = at'} {next = next'} {sign = sign'} {x = x'} r q' e') =
      let h = same_place i j k p (matching_halts j at next sign x q e) r (matching_halts k at' next' sign' x' q' e') in
      let t = (one_term s j at next at' next' x x' q (ap (read_term s) h ∙ q')).1 in
      let m : Unaided.Matches sign ≡ Unaided.Matches sign' = sym e ∙ ap (unaided client) t ∙ e' in
      ap Opening.Matched cc

  -- an accepted record has a reading, and with it one redirect and one exp, or none
  pub reading_one : (r r' : Reading) → OpeningOf client s (Ok r) → OpeningOf client s (Ok r') → r ≡ r'
  unfolding answer_of
  reading_one r r' f g =
      let a = record_accepting s after_version (sym f.answer) in
      let w = (record_complete a.reading a.short).walk in
      let x = f.modifiers r refl in
      let y = g.modifiers r' refl in
      ap (λ (o : Opening). record { opening = o; modifiers = r.modifiers }) (leads_one after_version r.opening r'.opening (f.leads r refl) (g.leads r' refl))
      ∙ ap (λ (u : Option Span). record { opening = r'.opening; modifiers = record { redirect = u; exp = r.modifiers.exp } }) (modifier_at_one (x.redirect a.terms w) (y.redirect a.terms w))
      ∙ ap (λ (u : Option Span). record { opening = r'.opening; modifiers = record { redirect = r'.modifiers.redirect; exp = u } }) (modifier_at_one (x.exp a.terms w) (y.exp a.terms w))

  -- two answers are the same
  pub opening_one : (a b : Result Reading Refusal) → OpeningOf client s a → OpeningOf client s b → a ≡ b
  unfolding answer_of
  opening_one (Ok r) (Ok r') f g = ap Ok (reading_one r r' f g)
  opening_one (Err x) (Err y) f g = let e : ◌≡◌ {A = RecordAnswer} (Err x) (Err y) = f.answer ∙ sym g.answer in let h : x ≡ y = cc in ap Err h
  opening_one (Ok r) (Err y) f g = let e : ◌≡◌ {A = RecordAnswer} (Ok after_version) (Err y) = f.answer ∙ sym g.answer in let z : ◌≡◌ {A = ℕ} 0 1 = cc in absurd (omega arith)
  opening_one (Err x) (Ok r') f g = let e : ◌≡◌ {A = RecordAnswer} (Err x) (Ok after_version) = f.answer ∙ sym g.answer in let z : ◌≡◌ {A = ℕ} 0 1 = cc in absurd (omega arith)
