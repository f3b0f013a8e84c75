-- The leading terms of a record that need no lookup: past those that pass, the walk stands as if it had tried them, and a match decides the record. From
-- what a term comes to that asks nothing, and the rules of Walking.
use Rattle.std.proofs.Common.{true, false, Option, Some, Ok, Err, Result as Outcome}
use Prim.Native.Nat.{ℕ, ◌*◌, ◌^◌, ◌≤◌, ◌<◌}
use mathlib.Core.Path.{◌≡◌, refl, sym, ap, subst, ◌∙◌}
use mathlib.Core.Bool.{Bool, cond}
use mathlib.Core.List.{List}
use native.Mathlib.Omega.{arith}
use lib.ListN.{length}
use Rattle.text.specs.Bytes.{part}
use Rattle.text.specs.declared.spans.Span.{Span}
use Rattle.address.specs.declared.Address.{Address}
use Rattle.address.specs.Matching.{matches_at}
use Rattle.records.specs.Reader.{read_term, read_record}
use Rattle.records.specs.Numbers.{said_of}
use Rattle.records.specs.declared.Term.{Term}
use Rattle.records.specs.declared.Refusal.{Refusal}
use Rattle.records.specs.declared.opening.Unaided.{Unaided}
use Rattle.records.specs.declared.opening.Opening.{Opening}
use Rattle.records.specs.declared.opening.Reading.{Reading}
use Rattle.records.specs.Opening.{unaided, Passing, Leads, OpeningOf, answer_of}
use Rattle.rules.specs.declared.Counts.{Counts}
use Rattle.rules.specs.declared.Progress.{Progress}
use Rattle.rules.specs.declared.FailingPlace.{FailingPlace}
use Rattle.rules.specs.declared.Checked.{Checked}
use Rattle.rules.specs.Tree.{run}
use Rattle.rules.specs.Tables.{table_in}
use Rattle.rules.specs.Mechanisms.{Mail}
use Rattle.rules.specs.Evaluation.{Sub, term_step, try_terms, terms_of, read_outcome, whole}
use Rattle.rules.specs.Outcomes.{span_of, FailingIn, After, SaysStep, Ends, SaysCheck}
use Rattle.mechanisms.specs.Terms.{TriedIs}
use Rattle.mechanisms.proofs.Laws.Trying.{tried_all, tried_network, tried_redirect, tried_explanation, tried_unknown}
use Rattle.evaluation.specs.Checks.{ended_of, sign_of, signed_of, in_table, FitsTable, SelectedAt, Underway}
use Rattle.evaluation.proofs.Laws.Beginning.{says_ended}
use Rattle.evaluation.proofs.Laws.Standing.{redirect_is, exp_fits, exp_is, exp_stands}
use Rattle.evaluation.proofs.Laws.Walking.{Walk, Failable, walk_start, walk_no, walk_yes}

asks_passes : Unaided.Asks ≡ Unaided.Passes → ⊥
asks_passes e = let z : ◌≡◌ {A = ℕ} 0 1 = cc in omega arith

asks_matches : (k : ℕ) → Unaided.Asks ≡ Unaided.Matches k → ⊥
asks_matches k e = let z : ◌≡◌ {A = ℕ} 0 1 = cc in omega arith

passes_matches : (k : ℕ) → Unaided.Passes ≡ Unaided.Matches k → ⊥
passes_matches k e = let z : ◌≡◌ {A = ℕ} 0 1 = cc in omega arith

module _ (t : List ℕ) (mail : Mail) (d w : List ℕ) (p : Progress) (b : List ℕ) where
  -- what a term's step says
  abbrev Asks : Term → Bool → Type 0
  Asks x m = (sub : Sub) → SaysStep (run (table_in t) p.life (term_step mail sub d (said_of w x) (said_of w x).sign p.counts)) (record { answer = Ok m; counts = p.counts; life = p.life }) b b

  network_step_lem : (sign from to n : ℕ) (a : Address) (m : Bool) → matches_at mail.client a n ≡ m → Asks (Term.Network sign from to a n) m
  unfolding TriedIs
  network_step_lem sign from to n a m e = tried_network t mail d w (Term.Network sign from to a n) p b sign from to n a refl m (sym e)

  -- a term that passes
  passing_step : (x : Term) → unaided mail.client x ≡ Unaided.Passes → Asks x false
  unfolding unaided TriedIs
  passing_step (Term.Network sign from to a n) e = by (matches_at mail.client a n) refl e
    where
      by : (m : Bool) → matches_at mail.client a n ≡ m → cond m (Unaided.Matches sign) Unaided.Passes ≡ Unaided.Passes → Asks (Term.Network sign from to a n) false
      by true h g = absurd (passes_matches sign (sym g))
      by false h g = network_step_lem sign from to n a false h
  passing_step (Term.Redirect from to) e = tried_redirect t mail d w (Term.Redirect from to) p b from to refl
  passing_step (Term.Explanation from to) e = tried_explanation t mail d w (Term.Explanation from to) p b from to refl
  passing_step (Term.Unknown n to) e = tried_unknown t mail d w (Term.Unknown n to) p b n to refl
  passing_step (Term.All sign) e = absurd (passes_matches sign (sym e))
  passing_step (Term.Include sign from to) e = absurd (asks_passes e)
  passing_step (Term.A sign from to four six) e = absurd (asks_passes e)
  passing_step (Term.Mx sign from to four six) e = absurd (asks_passes e)
  passing_step (Term.Ptr sign from to) e = absurd (asks_passes e)
  passing_step (Term.Exists sign from to) e = absurd (asks_passes e)

  -- a term that matches
  matching_step : (x : Term) (k : ℕ) → unaided mail.client x ≡ Unaided.Matches k → Asks x true × (sign_of x ≡ k)
  unfolding unaided TriedIs sign_of
  matching_step (Term.All sign) k e = (tried_all t mail d w (Term.All sign) p b sign refl, cc)
  matching_step (Term.Network sign from to a n) k e = by (matches_at mail.client a n) refl e
    where
      by : (m : Bool) → matches_at mail.client a n ≡ m → cond m (Unaided.Matches sign) Unaided.Passes ≡ Unaided.Matches k → Asks (Term.Network sign from to a n) true × (sign ≡ k)
      by true h g = (network_step_lem sign from to n a true h, cc)
      by false h g = absurd (passes_matches k g)
  matching_step (Term.Redirect from to) k e = absurd (passes_matches k e)
  matching_step (Term.Explanation from to) k e = absurd (passes_matches k e)
  matching_step (Term.Unknown n to) k e = absurd (passes_matches k e)
  matching_step (Term.Include sign from to) k e = absurd (asks_matches k e)
  matching_step (Term.A sign from to four six) k e = absurd (asks_matches k e)
  matching_step (Term.Mx sign from to four six) k e = absurd (asks_matches k e)
  matching_step (Term.Ptr sign from to) k e = absurd (asks_matches k e)
  matching_step (Term.Exists sign from to) k e = absurd (asks_matches k e)

-- the walk past the terms that pass
module _ (t : List ℕ) (mail : Mail) (d s : List ℕ) (first : ℕ) (b : List ℕ) (c : Counts) (l : Option ℕ) (small : c.lookups ≤ 10) (few : c.voids ≤ 2) where
  walk_led : (j : ℕ) → Passing mail.client s first j → Walk t mail d s first b c l b j c l
  walk_led j Passing.none = walk_start t mail d s first b c l small few
  walk_led j (Passing.onward {j = i} {at = at} {next = next} {x = x} p q e) =
      walk_no t mail d s first b c l b i c l (walk_led i p) (read_term s i) refl (record { at = at; next = next; term = x }) q (part s at next) refl (Ok false) c l b
      (passing_step t mail d (part s at next) (record { counts = c; life = l }) b x e (whole mail)) refl

-- `evaluate_record`
module _ (client : Address) (t : List ℕ) (domain text : Span) (k : SelectedAt t domain text) (u : List ℕ) (f : u ≡ span_of t text) (o : Outcome Reading Refusal) (g : OpeningOf client u o)
    (r : Reading) (a : o ≡ Ok r) where
  pub record_fits : length t * 1 < 2 ^ 63 → FitsTable r.modifiers.exp text.from
  record_fits l = exp_fits client t text u f o g r a l

  module _ (exp : Option Span) (e : exp ≡ in_table r.modifiers.exp text.from) where
    failing_here : FailingIn t domain exp
    failing_here = record { short = k.short; stands = rw e (exp_stands client t text u f o g r a (span_of t domain) k.labels k.selected k.stands) }

    failable : Failable t (record { domain = domain; exp = exp }) (terms_of (span_of t text) 6)
    failable = record { explains = rw e (exp_is client t text u f o g r a); failing = failing_here }

    open_passing : (j : ℕ) → r.opening ≡ Opening.Open j → Passing client (span_of t text) 6 j
    open_passing j h = subst (λ (z : List ℕ). Passing client z 6 j) f (by (subst (Leads client u 6) h (g.leads r a)))
      where
        by : Leads client u 6 (Opening.Open j) → Passing client u 6 j
        by (Leads.opened p a) = p

    pub open_underway : (j : ℕ) → r.opening ≡ Opening.Open j → Underway client t (record { domain = domain; exp = exp }) text r.modifiers.redirect j
    open_underway j q = record {
      passing = open_passing j q;
      redirects = redirect_is client t text u f o g r a;
      explains = failable.explains;
      failing = failing_here;
    }

-- what is tried of the record, by how it opened
module _ (t : List ℕ) (mail : Mail) (domain text : Span) (c : Counts) (l : Option ℕ) (b : List ℕ) (u : List ℕ) (f : u ≡ span_of t text) (y : Outcome Reading Refusal)
    (g : OpeningOf mail.client u y) where
  answered : read_record (span_of t text) ≡ answer_of y
  answered = ap read_record (sym f) ∙ sym g.answer

  pub record_refused : (x : Refusal) → y ≡ Err x → (o : Checked) → o ≡ ended_of 6
      → SaysCheck t (run (table_in t) l (read_outcome mail (whole mail) (span_of t domain) (span_of t text) (read_record (span_of t text)) c)) (record { answer = Ok o; counts = c; life = l }) b b
  unfolding read_outcome answer_of
  record_refused x q o e = rw (answered, q) (says_ended t (table_in t) 6 c l o b e)

  module _ (r : Reading) (a : y ≡ Ok r) where
    pub record_tried : (o : After Ends) (z : List ℕ)
        → SaysCheck t (run (table_in t) l (try_terms mail (whole mail) (span_of t domain) (terms_of (span_of t text) 6) (terms_of (span_of t text) 6) c)) o b z
        → SaysCheck t (run (table_in t) l (read_outcome mail (whole mail) (span_of t domain) (span_of t text) (read_record (span_of t text)) c)) o b z
    unfolding read_outcome answer_of
    record_tried o z h = rw (answered, a) h

    -- a term that matches without a lookup, and all before it pass
    module _ (k : SelectedAt t domain text) (small : c.lookups ≤ 10) (few : c.voids ≤ 2) (sign : ℕ) (q : r.opening ≡ Opening.Matched sign)
        (exp : Option Span) (x : exp ≡ in_table r.modifiers.exp text.from) (o : Checked) (e : o ≡ signed_of sign (record { domain = domain; exp = exp })) where
      matched_says : Leads mail.client (span_of t text) 6 (Opening.Matched sign)
          → SaysCheck t (run (table_in t) l (try_terms mail (whole mail) (span_of t domain) (terms_of (span_of t text) 6) (terms_of (span_of t text) 6) c)) (record { answer = Ok o; counts = c; life = l }) b b
      matched_says (Leads.matched {j = i} {at = at} {next = next} {x = z} p n h) =
          let s = span_of t text in
          let d = span_of t domain in
          let w = matching_step t mail d (part s at next) (record { counts = c; life = l }) b z sign h in
          walk_yes t mail d s 6 b c l b i c l (walk_led t mail d s 6 b c l small few i p) s refl (read_term s i) refl (Some (record { at = at; next = next; term = z })) (rw n)
          (record { at = at; next = next; term = z }) refl (part s at next) refl (Ok true) c l b (w.0 (whole mail)) (record { domain = domain; exp = exp }) refl
          (failable mail.client t domain text k u f y g r a exp x) true refl refl o
          (e ∙ ap (λ (v : ℕ). signed_of v (record { domain = domain; exp = exp })) (sym w.1))

      pub record_matched : SaysCheck t (run (table_in t) l (read_outcome mail (whole mail) (span_of t domain) (span_of t text) (read_record (span_of t text)) c)) (record { answer = Ok o; counts = c; life = l }) b b
      unfolding read_outcome answer_of
      record_matched =
          rw (answered, a) (matched_says (subst (λ (z : List ℕ). Leads mail.client z 6 (Opening.Matched sign)) f (subst (Leads mail.client u 6) q (g.leads r a))))

-- `try_terms`, from what is underway
pub underway_failable : {client : Address} {t : List ℕ} {place : FailingPlace} {text : Span} {redirect : Option Span} {start : ℕ} → Underway client t place text redirect start
    → Failable t place (terms_of (span_of t text) 6)
underway_failable k = record { explains = k.explains; failing = k.failing }

pub walk_opened : (t : List ℕ) (mail : Mail) (b : List ℕ) (c : Counts) (l : Option ℕ) → c.lookups ≤ 10 → c.voids ≤ 2 → (place : FailingPlace) (text : Span) (redirect : Option Span) (j : ℕ)
    → Underway mail.client t place text redirect j → (s : List ℕ) → s ≡ span_of t text → Walk t mail (span_of t place.domain) s 6 b c l b j c l
walk_opened t mail b c l small few place text redirect j k s f =
    walk_led t mail (span_of t place.domain) s 6 b c l small few j (subst (λ (z : List ℕ). Passing mail.client z 6 j) (sym f) k.passing)
