-- What holds of every result, text and verdict, whatever the table, the mail and the domain: at most ten lookups and, short of permerror, two void
-- answers; a fail and nothing else names the record that failed; "text written only for 3", of at most 500 bytes; and a question that is lacking is of
-- one of five kinds, and has a name as the table has it, if the table's items are of their kinds. From what a check keeps (Kept).
use Rattle.std.proofs.Common.{Option}
use Prim.Native.Nat.{ℕ, ◌≤◌, ◌<◌}
use native.Mathlib.Omega.{arith}
use mathlib.Core.Path.{◌≡◌, refl}
use mathlib.Core.List.{List, []}
use mathlib.Core.Bool.{true}
use lib.ListN.{length}
use Rattle.domain.specs.Names.{is_table_name}
use Rattle.domain.specs.Normal.{normal}
use Rattle.records.specs.Readings.{Optional, absent, present}
use Rattle.rules.specs.declared.Counts.{Counts}
use Rattle.rules.specs.Tree.{Table, Check, run}
use Rattle.rules.proofs.Laws.Alike.{Holds, holds_weaken, alike_give, alike_bind, alike_weaken}
use Rattle.rules.proofs.Laws.Askable.{Fitting, normal_ok}
use Rattle.rules.specs.Mechanisms.{Mail}
use Rattle.rules.specs.Evaluation.{Failing, Result, no_counts, evaluation, explanation, most_text, Verdict, verdict}
use Rattle.rules.proofs.Laws.Kept.{Reported, within, third, ResultKept, TextKept, AskedKind, Asked, Fine, bounded_self, resumes, check_fine, explanation_fine, explanation_of_fine}

-- a question that is lacking, and the counts that are reported with it
pub record AskedFacts (t : Table) (kind : ℕ) (n : List ℕ) (c : Counts) : Type 0 where
  pub asked_kind : AskedKind kind
  pub lookups_ten : c.lookups ≤ 10
  pub voids_two : c.voids ≤ 2
  pub table_name : Fitting t → is_table_name n ≡ true

-- a third void answer is permerror; a fail and nothing else names the record that failed, by its domain as the table has it
pub record ResultFacts (t : Table) (r : Result) : Type 0 where
  pub lookups_ten : r.counts.lookups ≤ 10
  pub voids_three : r.counts.voids ≤ 3
  pub third : 2 < r.counts.voids → r.value ≡ 6
  pub fails : (f : Failing) → r.failing ≡ present f → r.value ≡ 3
  pub named : r.failing ≡ absent → r.value ≡ 3 → ⊥
  pub whose : (f : Failing) → r.failing ≡ present f → Fitting t → is_table_name f.domain ≡ true

-- a third void answer is permerror, and only a fail has a text, of at most 500 bytes
pub record VerdictFacts (v : Verdict) : Type 0 where
  pub lookups_ten : v.counts.lookups ≤ 10
  pub voids_three : v.counts.voids ≤ 3
  pub third : 2 < v.counts.voids → v.value ≡ 6
  pub text : (v.value ≡ 3 → ⊥) → v.text ≡ []
  pub short : length v.text ≤ most_text

asked_facts : (t : Table) (kind : ℕ) (n : List ℕ) (k : Counts) → Asked (Fitting t) no_counts kind n k → AskedFacts t kind n k
asked_facts t kind n k a = record { asked_kind = a.asked_kind; lookups_ten = a.bounded.lookups_small (omega arith); voids_two = a.bounded.voids_small (omega arith); table_name = a.table_name }

bounds : {v : ℕ} {k : Counts} → Reported no_counts v k → (k.lookups ≤ 10) × (k.voids ≤ 3) × (2 < k.voids → v ≡ 6)
bounds (within b) =
    (b.lookups_small (omega arith), omega (arith, b.voids_small (omega arith)), λ h. absurd (omega (arith, h, b.voids_small (omega arith))))
bounds (third b) = (b.lookups_small (omega arith), omega (arith, b.voids_small (omega arith)), λ _. refl)

result_facts : (t : Table) (r : Result) → ResultKept (Fitting t) no_counts r → ResultFacts t r
result_facts t r h =
    let b = bounds h.reported in
    record { lookups_ten = b.0; voids_three = b.1; third = b.2; fails = h.fails; named = h.named; whose = h.whose }

text_facts : {Sound : Type 0} (r : Result) → ResultKept Sound no_counts r → (x : List ℕ) → TextKept r.failing x → VerdictFacts (record { value = r.value; counts = r.counts; text = x })
text_facts {Sound} r h x e =
    let b = bounds h.reported in
    record { lookups_ten = b.0; voids_three = b.1; third = b.2; text = λ n. e.unexplained (unexplained n r.failing refl); short = e.short }
  where
    unexplained : (r.value ≡ 3 → ⊥) → (f : Optional Failing) → r.failing ≡ f → r.failing ≡ absent
    unexplained n absent e = e
    unexplained n (present f) e = absurd (n (h.fails f e))

-- an evaluation, from no counts on
evaluation_fine : (t : Table) (mail : Mail) (domain : List ℕ) → Fine t (Fitting t) (λ f. f) no_counts (ResultKept (Fitting t) no_counts) (evaluation mail domain)
unfolding evaluation
evaluation_fine t mail domain = check_fine t (Fitting t) (λ f. f) no_counts 11 mail (normal domain) no_counts (bounded_self no_counts) (λ _. normal_ok domain)

module _ (t : Table) where
  -- what is settled of a check, by what it keeps
  facts_of_lem : {A : Type 0} {P Q : A → Type 0} {m : Check A} → ((a : A) → P a → Q a) → Fine t (Fitting t) (λ f. f) no_counts P m → (l : Option ℕ) → Holds (AskedFacts t) Q (run t l m)
  facts_of_lem {P = P} {Q = Q} {m = m} f h l = holds_weaken Q (asked_facts t) (run t l m) ((alike_weaken f h).holds l)

  pub evaluation_facts : (mail : Mail) (domain : List ℕ) (l : Option ℕ) → Holds (AskedFacts t) (ResultFacts t) (run t l (evaluation mail domain))
  evaluation_facts mail domain = facts_of_lem (result_facts t) (evaluation_fine t mail domain)

  pub explanation_facts : (mail : Mail) (d : List ℕ) (exp : Optional (List ℕ)) (l : Option ℕ) → Holds (AskedFacts t) (λ x. length x ≤ most_text) (run t l (explanation mail d exp no_counts))
  explanation_facts mail d exp = facts_of_lem (λ x h. h) (explanation_fine t (Fitting t) (λ f. f) no_counts mail d exp no_counts (bounded_self no_counts))

  pub verdict_facts : (mail : Mail) (domain : List ℕ) (l : Option ℕ) → Holds (AskedFacts t) VerdictFacts (run t l (verdict mail domain))
  unfolding verdict
  verdict_facts mail domain =
      facts_of_lem (λ v h. h)
      (alike_bind (evaluation_fine t mail domain)
      (λ r h. alike_bind (explanation_of_fine t (Fitting t) (λ f. f) no_counts mail r.failing r.counts (λ f e. resumes h.reported (λ s. omega (arith, s, h.fails f e))))
      (λ x e. alike_give (text_facts r h x e))))
