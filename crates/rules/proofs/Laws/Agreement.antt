-- What a check consults of a table decides it: a table with the same answers there settles the same, with the same lifetime.
-- By induction on the tree, for every check.
use Rattle.std.proofs.Common.{Option, ℕ}
use mathlib.Core.Path.{◌≡◌, refl}
use mathlib.Core.List.{List}
use Rattle.records.specs.Readings.{Optional, absent, present}
use Rattle.rules.specs.Tree.{Answer, Table, Check, give, ask, Settled, wanting, answered, sooner, run}
use Rattle.rules.specs.Trail.{Question, onward, trail, All, both, SameAt}

answered_agrees : {A : Type 0} (t u : Table) (w : Settled A) (f g : Answer → Settled A) (h : Answer → List Question)
    → ((y : Answer) → All (SameAt t u) (h y) → g y ≡ f y) → (x : Optional Answer) → All (SameAt t u) (onward x h) → answered x w g ≡ answered x w f
unfolding answered onward
answered_agrees t u w f g h e absent a = refl
answered_agrees t u w f g h e (present y) a = e y a

pub agrees : {A : Type 0} (t u : Table) (l : Option ℕ) (m : Check A) → All (SameAt t u) (trail t m) → run u l m ≡ run t l m
unfolding run trail
agrees t u l (give a) x = refl
agrees t u l (ask k d c g) (both p x) =
    rw p (answered_agrees t u (wanting k d c l) (λ y. run t (sooner l y.lifetime) (g y.reply)) (λ y. run u (sooner l y.lifetime) (g y.reply))
    (λ y. trail t (g y.reply)) (λ y z. agrees t u (sooner l y.lifetime) (g y.reply) z) (t k d) x)
