-- Candidates one after the other: those after one are asked where it doesn't match, from the counts and the lifetime that it left, and anything else that it comes to
-- stays. From Runs and Inversions.
use Rattle.std.proofs.Common.{true, false, Option, Ok, Err}
use Prim.Native.Nat.{ℕ}
use mathlib.Core.Path.{◌≡◌, refl, sym, ap, subst}
use mathlib.Core.List.{List}
use mathlib.Core.Bool.{Bool}
use native.Mathlib.Omega.{arith}
use Rattle.rules.specs.declared.Counts.{Counts}
use Rattle.rules.specs.declared.Wanted.{Wanted}
use Rattle.rules.specs.declared.Ending.{Ending}
use Rattle.rules.specs.Tree.{Table, Check, bind, run}
use Rattle.rules.specs.Mechanisms.{Match, yes, no, stop, Step, step, on_match, if_no_match}
use Rattle.rules.specs.Outcomes.{Gives, After, Matched, matched_of, SaysStep}
use Rattle.rules.proofs.Laws.Runs.{bind_is}
use Rattle.rules.proofs.Laws.Inversions.{gives_bind, wants_bind, step_yes, step_no, step_result, step_wants, step_gives, step_wanted}

-- the code's answer of another case than no match
abbrev pub Decided : Matched → Type 0
Decided m = m ≡ Ok false → ⊥

pub decided_true : (m : Bool) → m ≡ true → Decided (Ok m)
decided_true true e h = let z : ◌≡◌ {A = ℕ} 0 1 = cc in absurd (omega arith)
decided_true false e h = let z : ◌≡◌ {A = ℕ} 0 1 = cc in absurd (omega arith)

pub decided_err : (e : Ending) → Decided (Err e)
decided_err e h = let z : ◌≡◌ {A = ℕ} 0 1 = cc in absurd (omega arith)

module _ (t : Table) (rest : Counts → Check Step) (l : Option ℕ) (r : After Matched) (b a : List ℕ) where
  -- no match goes on
  pub goes_on : (m : Check Step) → SaysStep (run t l m) r b a → r.answer ≡ Ok false → (run t l (bind m (if_no_match rest)) ≡ run t r.life (rest r.counts)) × (a ≡ b)
  unfolding on_match
  goes_on m w h = let g = step_no (run t l m) r b a w h in (bind_is t l m (if_no_match rest) (record { match = no; counts = r.counts }) r.life g.is, g.kept)

  -- and any other one stays
  module _ (m : Check Step) (w : SaysStep (run t l m) r b a) where
    given_stays : (i : Match) → on_match rest i r.counts ≡ step i r.counts → r.answer ≡ matched_of i
        → Gives (run t l m) (record { match = i; counts = r.counts }) r.life b a → SaysStep (run t l (bind m (if_no_match rest))) r b a
    given_stays i o e g =
        step_gives _ (record { match = i; counts = r.counts }) r.life r b a (gives_bind t l m (if_no_match rest) _ _ r.life b a g o)
        (ap (λ (x : Matched). record { answer = x; counts = r.counts; life = r.life }) e)

    wanted_stays : (q : Wanted) → r.answer ≡ Err (Ending.Wanting q) → SaysStep (run t l (bind m (if_no_match rest))) r b a
    wanted_stays q e =
        let g = wants_bind t l m (if_no_match rest) q.kind q.length r.counts r.life b a (step_wants (run t l m) r b a w q e) in
        subst (λ (x : Matched). SaysStep (run t l (bind m (if_no_match rest))) (record { answer = x; counts = r.counts; life = r.life }) b a) (sym e)
        (step_wanted _ q r.counts r.life b a g)

    stays_by : (x : Matched) → r.answer ≡ x → Decided x → SaysStep (run t l (bind m (if_no_match rest))) r b a
    unfolding on_match matched_of
    stays_by (Ok true) e h = given_stays yes refl e (step_yes (run t l m) r b a w e)
    stays_by (Ok false) e h = absurd (h refl)
    stays_by (Err (Ending.Result v)) e h = given_stays (stop v) refl e (step_result (run t l m) r b a w v e)
    stays_by (Err (Ending.Wanting q)) e h = wanted_stays q e

  pub stays : Decided r.answer → (m : Check Step) → SaysStep (run t l m) r b a → SaysStep (run t l (bind m (if_no_match rest))) r b a
  stays h m w = stays_by m w r.answer refl h
