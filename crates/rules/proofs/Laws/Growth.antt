-- A result that is settled stays, its lifetime with it, when a table gains entries, whatever they are; and a question that is lacking stays lacking while none is gained for it.
-- By induction on the tree, for every check.
use Rattle.std.proofs.Common.{Option}
use Prim.Native.Nat.{ℕ}
use mathlib.Core.Path.{◌≡◌, refl, ◌∙◌}
use mathlib.Core.List.{List}
use Rattle.records.specs.Readings.{Optional, absent, present}
use Rattle.rules.specs.Tree.{Answer, Table, Check, give, ask, Settled, settled, wanting, answered, sooner, run}

-- what t has, u has too
abbrev pub Within : Table → Table → Type 0
Within t u = (k : ℕ) (d : List ℕ) (x : Answer) → t k d ≡ present x → u k d ≡ present x

-- a question that t lacks is one that u lacks too
unfoldable pub Lacking : {A : Type 0} → Table → Table → Settled A → Type 0
Lacking t u (settled a l) = Unit {0}
Lacking t u (wanting k d c l) = t k d ≡ absent → u k d ≡ absent

pub grown : {A : Type 0} (t u : Table) → Within t u → (l : Option ℕ) (m : Check A) → Lacking t u (run t l m) → run u l m ≡ run t l m
unfolding run answered Lacking
grown t u w l (give a) n = refl
grown {A} t u w l (ask k d c g) n = by (λ x. grown t u w (sooner l x.lifetime) (g x.reply)) (t k d) refl n
  where
    after : Table → Answer → Settled A
    after v x = run v (sooner l x.lifetime) (g x.reply)

    by : ((x : Answer) → Lacking t u (after t x) → after u x ≡ after t x) → (y : Optional Answer) → t k d ≡ y
        → Lacking {A = A} t u (answered y (wanting k d c l) (after t)) → answered (u k d) (wanting k d c l) (after u) ≡ answered y (wanting k d c l) (after t)
    by ih absent e h = rw (h e)
    by ih (present x) e h = rw (w k d x e) (ih x h)

-- a settled result
pub kept : {A : Type 0} (t u : Table) → Within t u → (l j : Option ℕ) (m : Check A) (a : A) → run t l m ≡ settled a j → run u l m ≡ settled a j
unfolding Lacking
kept t u w l j m a e = grown t u w l m (rw e tt) ∙ e
