-- The depth bound never decides: eleven checks below one another are enough, and more change nothing, whatever the table.
-- From counting: include and redirect begin a lookup before they go one level down, and the lookups counted never fall (Kept).
use Rattle.std.proofs.Common.{Option}
use Prim.Native.Nat.{ℕ, zero, suc, ◌+◌, ◌≤◌, ◌<◌}
use native.Mathlib.Omega.{arith}
use mathlib.Core.Path.{◌≡◌}
use mathlib.Core.List.{List}
use Rattle.domain.specs.Normal.{Naming, normal}
use Rattle.rules.specs.declared.Counts.{Counts}
use Rattle.rules.specs.Tree.{Table, run}
use Rattle.rules.specs.Mechanisms.{Mail}
use Rattle.rules.specs.Evaluation.{check_name, check, whole, no_counts, evaluation}
use Rattle.rules.proofs.Laws.Kept.{bounded_self, check_name_fine, check_fine}

pub enough : (t : Table) (l : Option ℕ) (n m : ℕ) (mail : Mail) (d : Naming) (c : Counts) → 10 < n + c.lookups → 10 < m + c.lookups → c.lookups ≤ 10
    → run t l (check n mail d c) ≡ run t l (check m mail d c)
unfolding check
enough t l zero m mail d c h k s = absurd (omega arith)
enough t l (suc n) zero mail d c h k s = absurd (omega arith)
enough t l (suc n) (suc m) mail d c h k s =
    (check_name_fine t ⊥ (λ z. absurd z) c mail (check n mail) (check m mail)
    (λ x e b f _. record {
      same = λ j. enough t j n m mail x e (omega arith) (omega arith) (b.lookups_small s);
      holds = (check_fine t ⊥ (λ z. absurd z) c n mail x e b (λ z. absurd z)).holds;
    }) d c (bounded_self c) (λ z. absurd z)).same l

-- So the check of a domain is its own unfolding: no number is left in what is said of it.
pub whole_unfolds : (t : Table) (l : Option ℕ) (mail : Mail) (x : Naming) (c : Counts) → c.lookups ≤ 10 → run t l (whole mail x c) ≡ run t l (check_name mail (whole mail) x c)
unfolding check
whole_unfolds t l mail x c h = enough t l 11 12 mail x c (omega arith) (omega arith) h

-- and the eleven might be any greater number
pub evaluation_enough : (t : Table) (l : Option ℕ) (n : ℕ) (mail : Mail) (domain : List ℕ) → 10 < n → run t l (evaluation mail domain) ≡ run t l (check n mail (normal domain) no_counts)
unfolding evaluation
evaluation_enough t l n mail domain h = enough t l 11 n mail (normal domain) no_counts (omega arith) (omega arith) (omega arith)
