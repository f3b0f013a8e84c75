-- The lifetime that a run ends with is the smallest of the entries that its questions found, and there is one smallest only. By induction on the tree, for
-- every check; from the definitions of `run` and `trail`.
use Rattle.std.proofs.Common.{None, Option, Some}
use Prim.Native.Nat.{ℕ, ◌≤◌, ◌<◌, min}
use native.Mathlib.Omega.{arith}
use mathlib.Core.Path.{◌≡◌, refl}
use mathlib.Core.List.{List, [], ◌∷◌}
use mathlib.Core.Logic.{⊎_elim}
use Rattle.text.proofs.Laws.Orders.{le_or_lt}
use Rattle.records.specs.Readings.{Optional, absent, present}
use Rattle.rules.specs.declared.Counts.{Counts}
use Rattle.rules.specs.Tree.{Answer, Table, Check, give, ask, Settled, wanting, answered, sooner, run}
use Rattle.rules.specs.Trail.{Question, onward, trail}
use Rattle.rules.specs.Lifetimes.{with_found, lifetimes, OneOf, first, later, Smallest, none, some, life_of, seconds}

-- one lifetime after another
unfoldable soonest : Option ℕ → List ℕ → Option ℕ
soonest l [] = l
soonest l (n ∷ ns) = soonest (sooner l n) ns

answered_life : {A : Type 0} (t : Table) (l : Option ℕ) (kind : ℕ) (d : List ℕ) (c : Counts) (f : Answer → Settled A) (g : Answer → List Question)
    → ((x : Answer) → life_of (f x) ≡ soonest (sooner l x.lifetime) (lifetimes t (g x))) → (r : Optional Answer)
    → life_of (answered r (wanting kind d c l) f) ≡ soonest l (with_found r (lifetimes t (onward r g)))
unfolding answered onward life_of soonest with_found lifetimes
answered_life t l kind d c f g h absent = refl
answered_life t l kind d c f g h (present x) = h x

run_life : {A : Type 0} (t : Table) (l : Option ℕ) (m : Check A) → life_of (run t l m) ≡ soonest l (lifetimes t (trail t m))
unfolding run trail life_of soonest lifetimes
run_life t l (give a) = refl
run_life t l (ask kind d c g) =
    answered_life t l kind d c (λ x. run t (sooner l x.lifetime) (g x.reply)) (λ x. trail t (g x.reply))
    (λ x. run_life t (sooner l x.lifetime) (g x.reply)) (t kind d)

-- the smallest of two numbers is one of them
smaller_of : (m n : ℕ) (ns : List ℕ) → OneOf (min m n) (m ∷ n ∷ ns)
smaller_of m n ns = ⊎_elim
    (λ (q : m ≤ n). let e : min m n ≡ m = omega arith in rw e first)
    (λ (q : n < m). let e : min m n ≡ n = omega arith in rw e (later first))
    (le_or_lt m n)

among : {m n k : ℕ} {ns : List ℕ} → OneOf k (min m n ∷ ns) → OneOf k (m ∷ n ∷ ns)
among {m = m} {n = n} {ns = ns} first = smaller_of m n ns
among (later p) = later (later p)

below : {k m n : ℕ} {ns : List ℕ} → ((x : ℕ) → OneOf x (min m n ∷ ns) → k ≤ x) → (x : ℕ) → OneOf x (m ∷ n ∷ ns) → k ≤ x
below {m = m} {n = n} h x first = omega (arith, h (min m n) first)
below {m = m} {n = n} h x (later first) = omega (arith, h (min m n) first)
below h x (later (later p)) = h x (later p)

alone : {m : ℕ} (x : ℕ) → OneOf x (m ∷ []) → m ≤ x
alone x first = omega arith
alone {m = m} x (later x4) = elim x4 [ ]

least_from : (m : ℕ) (ns : List ℕ) → (k : ℕ) × (soonest (Some m) ns ≡ Some k) × OneOf k (m ∷ ns) × ((x : ℕ) → OneOf x (m ∷ ns) → k ≤ x)
unfolding soonest sooner
least_from m [] = (m, refl, first, alone)
least_from m (n ∷ ns) = let r = least_from (min m n) ns in (r.0, r.1, among r.2, below r.3)

smallest_is : (ns : List ℕ) → Smallest ns (seconds (soonest None ns))
unfolding soonest sooner seconds
smallest_is [] = none
smallest_is (n ∷ ns) = let r = least_from n ns in rw r.1 (some r.2 r.3)

-- W-209's sentence, for every check
pub life_smallest : {A : Type 0} (t : Table) (m : Check A) → Smallest (lifetimes t (trail t m)) (seconds (life_of (run t None m)))
life_smallest t m = rw (run_life t None m) (smallest_is (lifetimes t (trail t m)))

-- some numbers have one smallest
pub smallest_one : {ns : List ℕ} {n m : ℕ} → Smallest ns n → Smallest ns m → n ≡ m
smallest_one none none = refl
smallest_one {n = n} {m = m} (some o h) (some p k) = omega (arith, h m p, k n o)
smallest_one {m = m} none (some p k) = elim p [ ]
smallest_one {n = n} (some o h) none = elim o [ ]
