-- One term and then the others, and the counts after a term, a host of mx or a name of ptr that does not match. From the definitions of the evaluation,
-- what a table settles of one check after another (Runs) and what a check keeps (Kept).
use Rattle.std.proofs.Common.{Option}
use Prim.Native.Nat.{ℕ}
use mathlib.Core.Path.{◌≡◌, subst}
use mathlib.Core.List.{List, ◌∷◌}
use Rattle.address.specs.declared.Address.{Address}
use Rattle.records.specs.Readings.{Optional, Said, Placed}
use Rattle.rules.specs.declared.Counts.{Counts}
use Rattle.rules.specs.Tree.{Table, Check, settled, wanting, run}
use Rattle.rules.proofs.Laws.Runs.{bind_is, bind_wants}
use Rattle.rules.proofs.Laws.Alike.{Holds}
use Rattle.rules.specs.Mechanisms.{Mail, Match, no, Step, ask_host, ask_hosts, ask_name}
use Rattle.rules.specs.Evaluation.{Sub, term_step, after_step, try_terms, whole}
use Rattle.rules.proofs.Laws.Kept.{Bounded, MatchKept, StepKept, Asked, Fine, bounded_self, host_fine, name_fine, hosts_fine, term_fine, check_fine}

-- one term and then the others, by what the table settles of it
module _ (t : Table) (mail : Mail) (sub : Sub) (d : List ℕ) (all_terms : List Placed) (x : Placed) (ts : List Placed) (c k : Counts) (l j : Option ℕ) where
  pub term_then : (m : Match) → run t l (term_step mail sub d x.said x.said.sign c) ≡ settled (record { match = m; counts = k }) j
      → run t l (try_terms mail sub d all_terms (x ∷ ts) c) ≡ run t j (after_step d all_terms x.said.sign m k (try_terms mail sub d all_terms ts))
  unfolding try_terms
  term_then m e = bind_is t l (term_step mail sub d x.said x.said.sign c) _ _ j e

  pub term_wants : (kind : ℕ) (n : List ℕ) → run t l (term_step mail sub d x.said x.said.sign c) ≡ wanting kind n k j
      → run t l (try_terms mail sub d all_terms (x ∷ ts) c) ≡ wanting kind n k j
  unfolding try_terms
  term_wants kind n e = bind_wants t l (term_step mail sub d x.said x.said.sign c) _ kind n k j e

-- after a step that does not match, the check goes on within the bounds
module _ (t : Table) (l j : Option ℕ) (c k : Counts) where
  bounded_after : (m : Check Step) → Fine t ⊥ (λ z. absurd z) c (StepKept c) m → run t l m ≡ settled (record { match = no; counts = k }) j → Bounded c k
  unfolding Holds MatchKept
  bounded_after m f e = subst (Holds (Asked ⊥ c) (StepKept c)) e (f.holds l)

  -- a term; a host of mx, several of them, and a name of ptr
  pub no_bounded : (mail : Mail) (d : List ℕ) (x : Said) (sign : Optional ℕ)
      → run t l (term_step mail (whole mail) d x sign c) ≡ settled (record { match = no; counts = k }) j → Bounded c k
  no_bounded mail d x sign =
      let below = check_fine t ⊥ (λ z. absurd z) c 11 mail in
      bounded_after (term_step mail (whole mail) d x sign c)
      (term_fine t ⊥ (λ z. absurd z) c mail (whole mail) (whole mail) (λ y l b _ s. below y l b s) d (λ z. absurd z) x sign c (bounded_self c))

  module _ (client : Address) where
    pub host_bounded : (n : ℕ) (d : List ℕ) → run t l (ask_host client n d c) ≡ settled (record { match = no; counts = k }) j → Bounded c k
    host_bounded n d = bounded_after (ask_host client n d c) (host_fine t ⊥ (λ z. absurd z) c c (bounded_self c) client n d (λ z. absurd z))

    pub hosts_bounded : (n : ℕ) (ds : List (List ℕ)) → run t l (ask_hosts client n ds c) ≡ settled (record { match = no; counts = k }) j → Bounded c k
    hosts_bounded n ds = bounded_after (ask_hosts client n ds c) (hosts_fine t ⊥ (λ z. absurd z) c client n ds (λ z. absurd z) c (bounded_self c))

    pub name_bounded : (m n : List ℕ) → run t l (ask_name client m n c) ≡ settled (record { match = no; counts = k }) j → Bounded c k
    name_bounded m n = bounded_after (ask_name client m n c) (name_fine t ⊥ (λ z. absurd z) c c (bounded_self c) client m n (λ z. absurd z))
