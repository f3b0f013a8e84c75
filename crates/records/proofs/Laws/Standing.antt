-- Where the modifier of a name stands, by a reading of its record: what the place says of the terms, that a reading has one, and how it is found term
-- after term. From the definitions of Opening and the places of arguments.
use Rattle.std.proofs.Common.{None, Option, Some, Ok}
use Prim.Native.Nat.{ℕ, ◌+◌, ◌≤◌}
use mathlib.Core.Path.{◌≡◌, refl, sym, ap, subst, ◌∙◌}
use mathlib.Core.List.{List, [], ◌∷◌, ◌++◌}
use mathlib.Core.Bool.{true, false}
use native.Mathlib.Omega.{arith}
use lib.ListN.{length}
use Rattle.text.specs.Bytes.{part}
use Rattle.text.specs.Lists.{same}
use Rattle.text.specs.Texts.{bytes}
use Rattle.text.proofs.Laws.Tests.{true_false}
use Rattle.text.proofs.Laws.Words.{same_false}
use Rattle.text.proofs.Laws.Spans.{span_word}
use Rattle.records.specs.Readings.{present, Placed}
use Rattle.records.specs.Numbers.{said_of, TermReport, term_report, term_at}
use Rattle.records.specs.Reader.{read_term, Reads, stop, step}
use Rattle.records.specs.declared.Term.{Term}
use Rattle.text.specs.declared.spans.Span.{Span}
use Rattle.records.specs.Opening.{ModifierAt, none, here, later, is_met, span}
use Rattle.records.proofs.Laws.Arguments.{Argument}

-- no term has the name
pub modifier_absent : {s wanted : List ℕ} {ts : List Placed} → ModifierAt s wanted ts None → (us vs : List Placed) (t : Placed) → ts ≡ us ++ (t ∷ vs)
    → t.said.name ≡ wanted → ⊥
modifier_absent none [] vs t e n = let z : ◌≡◌ {A = ℕ} 0 1 = cc in omega arith
modifier_absent none (u ∷ us) vs t e n = let z : ◌≡◌ {A = ℕ} 0 1 = cc in omega arith
modifier_absent (later {t = v} h r) [] vs t e n = let q : v ≡ t = cc in h (ap (λ (y : Placed). y.said.name) q ∙ n)
modifier_absent (later {ts = ts} h r) (u ∷ us) vs t e n = let q : ts ≡ us ++ (t ∷ vs) = cc in modifier_absent r us vs t q n

-- the argument of the first term of the name
pub modifier_part : {s wanted : List ℕ} {ts : List Placed} {from to : ℕ} → ModifierAt s wanted ts (Some (span from to))
    → (us vs : List Placed) × (t : Placed) × (ts ≡ us ++ (t ∷ vs)) × (t.said.name ≡ wanted) × (t.said.argument ≡ present (part s from to))
    × (from ≡ t.place + length (wanted ++ bytes "=")) × (to ≡ from + length (part s from to)) × (to ≤ length s)
modifier_part (here {t = t} {ts = ts} {x = x} {from = from} n a f l p) =
    ([], ts, t, refl, n, a ∙ ap present (sym p), f, ap (λ (y : List ℕ). from + length y) (sym p), l)
modifier_part (later {t = t} h r) =
    let (us, vs, u, e, n, a, f, l, i) = modifier_part r in
    (t ∷ us, vs, u, ap (λ (y : List Placed). t ∷ y) e, n, a, f, l, i)

-- one place
pub modifier_at_one : {s wanted : List ℕ} {ts : List Placed} {m m' : Option Span} → ModifierAt s wanted ts m → ModifierAt s wanted ts m' → m ≡ m'
modifier_at_one none none = refl
modifier_at_one (here {x = x} {from = i} n a f l p) (here {x = y} {from = j} n' a' f' l' p') = let q : x ≡ y = cc in let g : i ≡ j = cc in cc
modifier_at_one (here n a f l p) (later h r) = absurd (h n)
modifier_at_one (later h r) (here n a f l p) = absurd (h n)
modifier_at_one (later h r) (later h' r') = modifier_at_one r r'

-- what stands from a place on, by whatever reading there is
abbrev pub Standing : List ℕ → List ℕ → ℕ → Option Span → Type 0
Standing s wanted i m = (ts : List Placed) → Reads s i ts → ModifierAt s wanted ts m

-- part way through the terms: what stands from here on stands in all, or the modifier has been met
pub data Sought (s wanted : List ℕ) (i₀ i : ℕ) : Option Span → Type 0 where
  seeking : ((m : Option Span) → Standing s wanted i m → Standing s wanted i₀ m) → Sought s wanted i₀ i None
  found : {from to : ℕ} → Standing s wanted i₀ (Some (span from to)) → Sought s wanted i₀ i (Some (span from to))

pub sought_start : (s wanted : List ℕ) (i : ℕ) → Sought s wanted i i None
sought_start s wanted i = seeking (λ m g. g)

-- no more term
pub sought_end : {s wanted : List ℕ} {i₀ i : ℕ} {m : Option Span} → Ok None ≡ read_term s i → Sought s wanted i₀ i m → Standing s wanted i₀ m
sought_end {s} {wanted} {i₀} {i} e (seeking f) = f None last
  where
    last : Standing s wanted i None
    last ts (stop q) = none
    last ts (step {next = n} {t = t} q r) = let g : TermReport.end ≡ TermReport.term n t = ap (term_report s) e ∙ q in let z : ◌≡◌ {A = ℕ} 0 1 = cc in absurd (omega arith)
sought_end e (found g) = g

-- one more term
module _ (s : List ℕ) (i p n : ℕ) (x : Term) (q : read_term s i ≡ term_at p n x) where
  abbrev it : Placed
  it = record { place = p; said = said_of (part s p n) x }

  first : {wanted : List ℕ} {m : Option Span} → ((ts : List Placed) → Reads s n ts → ModifierAt s wanted (it ∷ ts) m) → Standing s wanted i m
  first g ts (stop e) = let d : TermReport.term n it ≡ TermReport.end = ap (term_report s) (sym q) ∙ e in let z : ◌≡◌ {A = ℕ} 0 1 = cc in absurd (omega arith)
  first {wanted} {m} g ts (step {next = k} {t = t} {ts = us} e r) =
      let d : TermReport.term n it ≡ TermReport.term k t = ap (term_report s) (sym q) ∙ e in
      let a : n ≡ k = cc in
      let b : it ≡ t = cc in
      subst (λ (y : Placed). ModifierAt s wanted (y ∷ us) m) b (g us (subst (λ (j : ℕ). Reads s j us) (sym a) r))

  pub sought_other : {wanted : List ℕ} {i₀ : ℕ} {m : Option Span} → same (said_of (part s p n) x).name wanted ≡ false → Sought s wanted i₀ i m → Sought s wanted i₀ n m
  sought_other {wanted} h (seeking f) = seeking (λ m g. f m (first (λ ts r. later (same_false (said_of (part s p n) x).name wanted h) (g ts r))))
  sought_other h (found g) = found g

  module _ (wanted : List ℕ) (from to : ℕ) (name : (said_of (part s p n) x).name ≡ wanted) (says : (said_of (part s p n) x).argument ≡ present (part (part s p n) from to))
      (a : Argument s wanted p n from to) where
    found_here : (ts : List Placed) → ModifierAt s wanted (it ∷ ts) (Some (span (p + from) (p + to)))
    found_here ts =
        let w = part (part s p n) from to in
        let e : p + to ≡ p + from + length w = a.text.size in
        subst (λ (k : ℕ). ModifierAt s wanted (it ∷ ts) (Some (span (p + from) k))) (sym e)
        (here name says (ap (λ (k : ℕ). p + k) a.first) (omega (arith, e, a.inside)) (subst (λ (k : ℕ). part s (p + from) k ≡ w) e (span_word a.text)))

    pub sought_here : {i₀ : ℕ} {m : Option Span} → is_met m ≡ false → Sought s wanted i₀ i m → Sought s wanted i₀ n (Some (span (p + from) (p + to)))
    unfolding is_met
    sought_here h (seeking f) = found (f (Some (span (p + from) (p + to))) (first (λ ts r. found_here ts)))
    sought_here h (found g) = absurd (true_false true refl h)
