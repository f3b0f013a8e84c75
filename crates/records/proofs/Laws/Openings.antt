-- The ways out of the functions that read a record for a client: the record's answer is that of the reader, the leading terms are as the opening says,
-- and redirect and exp stand where the modifiers say. From the laws of Checking and of Noting, and the definitions of Opening.
use Rattle.records.specs.declared.ReadTerm.{ReadTerm}
use Rattle.records.specs.declared.Reason.{Reason}
use Rattle.records.specs.Numbers.{TermAnswer, term_at, refusal}
use Rattle.std.proofs.Common.{None, Option, Some, Result, Ok, Err}
use Prim.Native.Nat.{ℕ, ◌+◌, ◌-◌, ◌≤◌, ◌<◌}
use mathlib.Core.Path.{◌≡◌, refl, sym, ap, ◌∙◌}
use mathlib.Core.List.{List}
use mathlib.Core.Bool.{Bool, true, false, cond, ◌&&◌, ◌||◌}
use native.Mathlib.Omega.{arith}
use lib.ListN.{length}
use lib.Dec.{eqb}
use borrow.Author.Tests.{eqb-true, eq-eqb, ne_eqb}
use Rattle.address.specs.declared.Address.{Address}
use Rattle.address.specs.Matching.{matches_at}
use Rattle.text.specs.Texts.{bytes}
use Rattle.records.specs.declared.Term.{Term}
use Rattle.records.specs.declared.opening.Unaided.{Unaided}
use Rattle.records.specs.declared.opening.Opening.{Opening}
use Rattle.records.specs.declared.opening.Modifiers.{Modifiers}
use Rattle.records.specs.declared.opening.Reading.{Reading}
use Rattle.records.specs.declared.Refusal.{Refusal}
use Rattle.records.specs.Answers.{most_bytes}
use Rattle.records.specs.Reader.{read_term, is_redirect, is_explanation, check_after, check_from, has_version, read_record, after_version}
use Rattle.records.specs.Opening.{modifier_at, modifiers_of, unaided, Passing, Leads, Opened, OpeningOf, answer_of, none_met, is_met, repeated_by, noted, NoteFits, span, led_by, led_on}
use Rattle.records.proofs.Laws.Checking.{Checking, checking_start, checking_ended, checking_repeats, checking_less, checking_next, record_long, record_other, record_checked}
use Rattle.records.proofs.Laws.Standing.{Sought, sought_start, sought_end}
use Rattle.records.proofs.Laws.Noting.{case_of, redirect_met, exp_met, redirect_next, exp_next, note_fits}

-- `try_unaided`
module _ (client : Address) (x : Term) (sign from to : ℕ) (a : Address) (n : ℕ) (e : x ≡ Term.Network sign from to a n) (m : Bool) (p : m ≡ matches_at client a n) where
  pub unaided_matches : m ≡ true → Unaided.Matches sign ≡ unaided client x
  unfolding unaided
  unaided_matches h = sym (simp (e, sym p ∙ h))

  pub unaided_passes : m ≡ false → Unaided.Passes ≡ unaided client x
  unfolding unaided
  unaided_passes h = sym (simp (e, sym p ∙ h))

pub unaided_by : (client : Address) (x y : Term) (r : Unaided) → x ≡ y → r ≡ unaided client y → r ≡ unaided client x
unaided_by client x y r e h = h ∙ ap (unaided client) (sym e)

-- `lead_on`
pub lead_other : (client : Address) (o : Opening) (i n : ℕ) (x : Term) → ((j : ℕ) → o ≡ Opening.Open j → ⊥) → o ≡ led_on client o i n x
unfolding led_on
lead_other client (Opening.Open j) i n x h = absurd (h j refl)
lead_other client (Opening.Matched sign) i n x h = refl

module _ (client : Address) (o : Opening) (j : ℕ) (e : o ≡ Opening.Open j) (i n : ℕ) (x : Term) where
  pub lead_behind : (j ≡ i → ⊥) → Opening.Open j ≡ led_on client o i n x
  unfolding led_on
  lead_behind h = sym (ap (λ (y : Opening). led_on client y i n x) e ∙ simp (ne_eqb j i h))

  module _ (h : j ≡ i) (u : Unaided) (p : u ≡ unaided client x) where
    led : led_on client o i n x ≡ led_by u j n
    unfolding led_on
    led = ap (λ (y : Opening). led_on client y i n x) e ∙ simp (eq-eqb j i h, sym p)

    pub lead_matches : (sign : ℕ) → u ≡ Unaided.Matches sign → Opening.Matched sign ≡ led_on client o i n x
    unfolding led_by
    lead_matches sign q = sym (led ∙ simp q)

    pub lead_passes : u ≡ Unaided.Passes → Opening.Open n ≡ led_on client o i n x
    unfolding led_by
    lead_passes q = sym (led ∙ simp q)

    pub lead_asks : u ≡ Unaided.Asks → Opening.Open j ≡ led_on client o i n x
    unfolding led_by
    lead_asks q = sym (led ∙ simp q)

-- part way: all terms up to here pass, or the opening is known already
pub data Led (client : Address) (s : List ℕ) (i₀ i : ℕ) : Opening → Type 0 where
  passing : Passing client s i₀ i → Led client s i₀ i (Opening.Open i)
  known : {o : Opening} → Leads client s i₀ o → Led client s i₀ i o

-- a place has one term
pub one_term : (s : List ℕ) (j at n at' n' : ℕ) (x x' : Term) → read_term s j ≡ term_at at n x → read_term s j ≡ term_at at' n' x' → (n ≡ n') × (x ≡ x')
one_term s j at n at' n' x x' p q =
    let e : term_at at n x ≡ term_at at' n' x' = sym p ∙ q in
    let g : ◌≡◌ {A = ReadTerm} (record { at = at; next = n; term = x }) (record { at = at'; next = n'; term = x' }) = cc in
    (ap (λ (t : ReadTerm). t.next) g, ap (λ (t : ReadTerm). t.term) g)

module _ (client : Address) (s : List ℕ) (i₀ i at n : ℕ) (x : Term) (q : read_term s i ≡ term_at at n x) where
  -- one more term, all before it passing
  led_by_lem : Passing client s i₀ i → (u : Unaided) → unaided client x ≡ u → Led client s i₀ n (led_by u i n)
  unfolding led_by
  led_by_lem p (Unaided.Matches sign) e = known (Leads.matched p q e)
  led_by_lem p Unaided.Passes e = passing (Passing.onward p q e)
  led_by_lem p Unaided.Asks e = known (Leads.opened p (λ at' n' x' q'. ap (unaided client) (sym (one_term s i at n at' n' x x' q q').1) ∙ e))

  led_on_lem : (o : Opening) → Led client s i₀ i o → Led client s i₀ n (led_on client o i n x)
  unfolding led_on led_by
  led_on_lem o (passing p) = rw (eq-eqb i i refl) (led_by_lem p (unaided client x) refl)
  led_on_lem o (known (Leads.matched p r e)) = known (Leads.matched p r e)
  led_on_lem o (known (Leads.opened {j = j} p a)) = by (eqb j i) refl
    where
      by : (t : Bool) → eqb j i ≡ t → Led client s i₀ n (cond t (led_by (unaided client x) j n) (Opening.Open j))
      by true e = rw (a at n x (ap (read_term s) (eqb-true j i e) ∙ q)) (known (Leads.opened p a))
      by false e = known (Leads.opened p a)

-- no more term
no_term : (at n : ℕ) (x : Term) → Ok None ≡ term_at at n x → ⊥
no_term at n x e = let z : ◌≡◌ {A = ℕ} 0 1 = cc in omega arith

led_last : (client : Address) (s : List ℕ) (i₀ i : ℕ) (o : Opening) → Led client s i₀ i o → Ok None ≡ read_term s i → Leads client s i₀ o
led_last client s i₀ i o (passing p) q = Leads.opened p (λ at n x r. absurd (no_term at n x (q ∙ r)))
led_last client s i₀ i o (known l) q = l

-- part way through the terms, with the modifiers met and the opening so far
pub record Opens (client : Address) (s : List ℕ) (i₀ i : ℕ) (m : Modifiers) (o : Opening) : Type 0 where
  pub checks : Checking s i₀ i (is_met m.redirect) (is_met m.exp)
  pub leads : Led client s i₀ i o
  pub redirect : Sought s (bytes "redirect") i₀ i m.redirect
  pub exp : Sought s (bytes "exp") i₀ i m.exp

opens_start : (client : Address) (s : List ℕ) (i : ℕ) → i ≤ length s → Opens client s i i none_met (Opening.Open i)
unfolding is_met
opens_start client s i h = record {
  checks = checking_start s i h;
  leads = passing Passing.none;
  redirect = sought_start s (bytes "redirect") i;
  exp = sought_start s (bytes "exp") i;
}

pub opens_begin : (client : Address) (s : List ℕ) (i : ℕ) → i ≤ length s
    → Opens client s i i (modifiers_of (record { redirect = span 0 0; exp = span 0 0 })) (Opening.Open i)
unfolding modifier_at
opens_begin client s i h = opens_start client s i h

-- a refusal tells nothing of the terms
refused_opened : (client : Address) (s : List ℕ) (i : ℕ) (x : Refusal) → ((f : ℕ) → length s < f + i → Err x ≡ check_from f s i false false)
    → Opened client s i (Err x)
unfolding answer_of
refused_opened client s i x h = record {
  checks = h;
  leads = λ r e. absurd (let z : ◌≡◌ {A = ℕ} 0 1 = cc in omega arith);
  modifiers = λ r e. absurd (let z : ◌≡◌ {A = ℕ} 0 1 = cc in omega arith);
}

module _ (client : Address) (s : List ℕ) (i₀ i : ℕ) (m : Modifiers) (o : Opening) (w : Opens client s i₀ i m o) where
  -- which modifiers have been met
  abbrev r : Bool
  r = is_met m.redirect

  abbrev e : Bool
  e = is_met m.exp

  module _ (a : TermAnswer) (p : a ≡ read_term s i) where
    opens_end : a ≡ Ok None → Opened client s i₀ (Ok (record { opening = o; modifiers = m }))
    unfolding answer_of check_after
    opens_end q =
        let k : Ok None ≡ read_term s i = sym q ∙ p in
        record {
          checks = checking_ended s i₀ i r e w.checks (Ok None) k (Ok after_version) (λ rest. refl);
          leads = λ y h. let g : y ≡ record { opening = o; modifiers = m } = cc in rw g (led_last client s i₀ i o w.leads k);
          modifiers = λ y h. let g : y ≡ record { opening = o; modifiers = m } = cc in rw g (record { redirect = sought_end k w.redirect; exp = sought_end k w.exp });
        }

    pub opens_refused : (x : Refusal) → a ≡ Err x → Opened client s i₀ (Err x)
    unfolding check_after
    opens_refused x q = refused_opened client s i₀ x (checking_ended s i₀ i r e w.checks (Err x) (sym q ∙ p) (Err x) (λ rest. refl))

    pub opens_end_at : (x : Option ReadTerm) → a ≡ Ok x → ((t : ReadTerm) → x ≡ Some t → ⊥) → (y : Modifiers) → y ≡ m
        → Opened client s i₀ (Ok (record { opening = o; modifiers = y }))
    opens_end_at None q h y e = rw e (opens_end q)
    opens_end_at (Some t) q h y e = absurd (h t refl)

    module _ (y : Option ReadTerm) (u : a ≡ Ok y) (t : ReadTerm) (v : y ≡ Some t) where
      q : a ≡ Ok (Some t)
      q = u ∙ ap Ok v

      read : read_term s i ≡ Ok (Some t)
      read = sym p ∙ q

      pub opens_less : length s + 1 - t.next < length s + 1 - i
      opens_less = checking_less s i₀ i r e w.checks a p t.at t.next t.term q

      pub opens_notes : NoteFits t.at t.term
      opens_notes = note_fits s i t.at t.next t.term read

      module _ (x : Bool) (g : x ≡ repeated_by m t.term) where
        tested : x ≡ ((r && is_redirect t.term) || (e && is_explanation t.term))
        unfolding repeated_by
        tested = g

        pub opens_repeats : x ≡ true → Opened client s i₀ (Err (refusal Reason.Repeated t.at))
        opens_repeats h =
            refused_opened client s i₀ (refusal Reason.Repeated t.at) (checking_repeats s i₀ i r e w.checks a p t.at t.next t.term q x tested h)

        pub opens_next : x ≡ false → (m' : Modifiers) → m' ≡ noted m t.at t.term → (o' : Opening) → o' ≡ led_on client o i t.next t.term
            → Opens client s i₀ t.next m' o'
        opens_next h m' j o' k = rw (j, k) (record {
          checks = checking_next s i₀ i r e w.checks a p t.at t.next t.term q x tested h _ _ (redirect_met m t.at (case_of t.term)) (exp_met m t.at (case_of t.term));
          leads = led_on_lem client s i₀ i t.at t.next t.term read o w.leads;
          redirect = redirect_next s i₀ i t.at t.next m (case_of t.term) read (sym g ∙ h) w.redirect;
          exp = exp_next s i₀ i t.at t.next m (case_of t.term) read (sym g ∙ h) w.exp;
        })

-- `open_record`
module _ (client : Address) (s : List ℕ) where
  refused_of_lem : (x : Refusal) → Err x ≡ read_record s → OpeningOf client s (Err x)
  unfolding answer_of
  refused_of_lem x h = record {
    answer = h;
    leads = λ r e. absurd (let z : ◌≡◌ {A = ℕ} 0 1 = cc in omega arith);
    modifiers = λ r e. absurd (let z : ◌≡◌ {A = ℕ} 0 1 = cc in omega arith);
  }

  pub open_long : most_bytes < length s → OpeningOf client s (Err (refusal Reason.TooLong 0))
  open_long h = refused_of_lem (refusal Reason.TooLong 0) (record_long s h)

  module _ (short : length s ≤ most_bytes) (x : Bool) (p : x ≡ has_version s) where
    pub open_other : x ≡ false → OpeningOf client s (Err (refusal Reason.NoVersion 0))
    open_other h = refused_of_lem (refusal Reason.NoVersion 0) (record_other s short x p h)

    pub open_checked : x ≡ true → (r : Result Reading Refusal) → Opened client s after_version r → OpeningOf client s r
    open_checked h r g = record { answer = record_checked s short x p h (answer_of r) g.checks; leads = g.leads; modifiers = g.modifiers }
