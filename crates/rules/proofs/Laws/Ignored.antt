-- SPF entries change no evaluation and no explanation: W-207 amends the house rules, they are "ignored". From growth: the table without them lacks no
-- question of their kind (`evaluation_facts`, `explanation_facts`), so that any table with the same other entries settles what it settles.
use Rattle.std.proofs.Common.{Option}
use Prim.Native.Nat.{ℕ, ◌≤◌}
use native.Mathlib.Omega.{arith}
use mathlib.Core.Path.{◌≡◌, refl, sym, ◌∙◌}
use mathlib.Core.List.{List}
use mathlib.Core.Bool.{cond}
use lib.Dec.{eqb}
use lib.ListN.{length}
use borrow.Author.Tests.{eqb-false, ne_eqb}
use Rattle.text.proofs.Laws.Tests.{cond-elim}
use Rattle.answer_table.specs.Layout.{kind_spf}
use Rattle.records.specs.Readings.{Optional, absent, present}
use Rattle.rules.specs.Tree.{Answer, Table, Check, Settled, settled, wanting, run}
use Rattle.rules.specs.Mechanisms.{Mail}
use Rattle.rules.specs.Evaluation.{no_counts, evaluation, most_text, explanation, verdict}
use Rattle.rules.proofs.Laws.Alike.{Holds}
use Rattle.rules.proofs.Laws.Kept.{AskedKind, of_a, of_ptr, of_mx, of_txt, of_aaaa}
use Rattle.rules.proofs.Laws.Verdicts.{AskedFacts, ResultFacts, VerdictFacts, evaluation_facts, explanation_facts, verdict_facts}
use Rattle.rules.proofs.Laws.Growth.{Within, Lacking, grown}

-- two tables have the same for every question but SPF's
abbrev pub SameOthers : Table → Table → Type 0
SameOthers t u = (k : ℕ) (d : List ℕ) → (k ≡ kind_spf → ⊥) → u k d ≡ t k d

-- no question is SPF's
not_spf : {k : ℕ} → AskedKind k → k ≡ kind_spf → ⊥
not_spf of_a e = omega arith
not_spf of_ptr e = omega arith
not_spf of_mx e = omega arith
not_spf of_txt e = omega arith
not_spf of_aaaa e = omega arith

-- a table without its SPF entries, and one that has the same but for them
unfoldable others : Table → Table
others t k d = cond (eqb k kind_spf) absent (t k d)

module _ (t u : Table) (e : SameOthers t u) where
  others_within : Within (others t) u
  unfolding others
  others_within k d r =
      cond-elim (λ (x : Optional Answer). x ≡ present r → u k d ≡ present r) (eqb k kind_spf)
      (λ _ q. let z : ◌≡◌ {A = ℕ} 0 1 = cc in absurd (omega arith))
      (λ h q. e k d (eqb-false k kind_spf h) ∙ q)

  others_lacking : {A : Type 0} (P : A → Type 0) (x : Settled A) → Holds (AskedFacts (others t)) P x → Lacking (others t) u x
  unfolding Holds Lacking others
  others_lacking P (settled a l) h = tt
  others_lacking P (wanting k d c l) h = let n = not_spf h.asked_kind in λ q. e k d n ∙ (rw (ne_eqb k kind_spf n) at q)

  by_others : {A : Type 0} (P : A → Type 0) (l : Option ℕ) (m : Check A) → Holds (AskedFacts (others t)) P (run (others t) l m) → run u l m ≡ run (others t) l m
  by_others P l m h = grown (others t) u others_within l m (others_lacking P (run (others t) l m) h)

-- a check whose questions are of the five kinds settles the same with both
ignored : {A : Type 0} (P : Table → A → Type 0) (m : Check A) → ((t : Table) (l : Option ℕ) → Holds (AskedFacts t) (P t) (run t l m)) → (t u : Table) → SameOthers t u
    → (l : Option ℕ) → run u l m ≡ run t l m
ignored P m h t u e l = by_others t u e (P (others t)) l m (h (others t) l) ∙ sym (by_others t t (λ k d n. refl) (P (others t)) l m (h (others t) l))

module _ (t u : Table) (e : SameOthers t u) (mail : Mail) where
  pub spf_ignored : (domain : List ℕ) (l : Option ℕ) → run u l (evaluation mail domain) ≡ run t l (evaluation mail domain)
  spf_ignored domain = ignored ResultFacts (evaluation mail domain) (λ t. evaluation_facts t mail domain) t u e

  pub spf_unexplained : (d : List ℕ) (exp : Optional (List ℕ)) (l : Option ℕ) → run u l (explanation mail d exp no_counts) ≡ run t l (explanation mail d exp no_counts)
  spf_unexplained d exp = ignored (λ _ x. length x ≤ most_text) (explanation mail d exp no_counts) (λ t. explanation_facts t mail d exp) t u e

  pub spf_verdict : (domain : List ℕ) (l : Option ℕ) → run u l (verdict mail domain) ≡ run t l (verdict mail domain)
  spf_verdict domain = ignored (λ _. VerdictFacts) (verdict mail domain) (λ t. verdict_facts t mail domain) t u e
