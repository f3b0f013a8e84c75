-- What a table settles of a value that is given, of a question by what the table has for it, and of one check after another by what it settles of
-- the first; and that the lifetime a run begins with has no part in the value. From the definition of `run` and `run_bind`, for every check.
use Rattle.std.proofs.Common.{Option}
use Prim.Native.Nat.{ℕ}
use mathlib.Core.Path.{◌≡◌, refl, sym, ap, ◌∙◌}
use mathlib.Core.List.{List}
use native.Mathlib.Omega.{arith}
use Rattle.records.specs.Readings.{Optional, absent, present}
use Rattle.rules.specs.declared.Counts.{Counts}
use Rattle.rules.specs.Tree.{Reply, Answer, Table, Check, give, ask, Settled, settled, wanting, bind, then, answered, sooner, run, SettlesTo, run_bind}
use Rattle.rules.specs.Outcomes.{Settles, Lacks}

module _ {A : Type 0} (t : Table) (l : Option ℕ) where
  -- a value that is given is settled, and nothing else
  pub give_settles : (a : A) → Settles (run t l (give a)) a l
  unfolding run
  give_settles a = refl

  pub give_same : (a a' : A) (j : Option ℕ) → Settles (run t l (give a)) a' j → a ≡ a'
  unfolding run
  give_same a a' j e = ap inner e
    where
      inner : Settled A → A
      inner (settled x i) = x
      inner (wanting kind n c i) = a

  -- a question without an entry is lacking, and one with an entry goes on from it
  module _ (kind : ℕ) (d : List ℕ) (c : Counts) (g : Reply → Check A) where
    pub ask_absent : t kind d ≡ absent → Lacks (run t l (ask kind d c g)) kind d c l
    unfolding run answered
    ask_absent e = rw e

    pub ask_present : (x : Answer) → t kind d ≡ present x → run t l (ask kind d c g) ≡ run t (sooner l x.lifetime) (g x.reply)
    unfolding run answered
    ask_present x e = rw e

module _ {A B : Type 0} (t : Table) (l : Option ℕ) (m : Check A) where
  -- the first is settled, and the second goes on from its value and its lifetime
  pub bind_is : (f : A → Check B) (a : A) (j : Option ℕ) → Settles (run t l m) a j → run t l (bind m f) ≡ run t j (f a)
  unfolding then
  bind_is f a j e = run_bind t l m f ∙ rw e

  -- a question that the first lacks is lacking
  pub bind_wants : (f : A → Check B) (kind : ℕ) (n : List ℕ) (c : Counts) (j : Option ℕ) → Lacks (run t l m) kind n c j → Lacks (run t l (bind m f)) kind n c j
  unfolding then
  bind_wants f kind n c j e = run_bind t l m f ∙ rw e

  -- two ways to go on that settle the same from the first's value
  pub bind_same : (f g : A → Check B) → ((a : A) (j : Option ℕ) → Settles (run t l m) a j → run t j (f a) ≡ run t j (g a)) → run t l (bind m f) ≡ run t l (bind m g)
  unfolding then
  bind_same f g h = run_bind t l m f ∙ by (run t l m) refl ∙ sym (run_bind t l m g)
    where
      by : (x : Settled A) → run t l m ≡ x → then x (λ a j. run t j (f a)) ≡ then x (λ a j. run t j (g a))
      by (settled a j) e = h a j e
      by (wanting kind n c j) e = refl

-- two first checks that settle the same
pub bind_first : {A B : Type 0} (t : Table) (l : Option ℕ) (m m' : Check A) (f : A → Check B) → run t l m ≡ run t l m' → run t l (bind m f) ≡ run t l (bind m' f)
bind_first {A = A} t l m m' f e = run_bind t l m f ∙ ap (λ (x : Settled A). then x (λ a j. run t j (f a))) e ∙ sym (run_bind t l m' f)

-- the same value or question, whatever the lifetimes
pub data Same {A : Type 0} : Settled A → Settled A → Type 0 where
  decided : {a : A} {i j : Option ℕ} → Same (settled a i) (settled a j)
  lacking : {kind : ℕ} {n : List ℕ} {c : Counts} {i j : Option ℕ} → Same (wanting kind n c i) (wanting kind n c j)

-- two runs of a check that begin with different lifetimes
pub run_any : {A : Type 0} (t : Table) (l j : Option ℕ) (m : Check A) → Same (run t l m) (run t j m)
unfolding run answered
run_any t l j (give a) = decided
run_any {A} t l j (ask kind n c g) = by (t kind n) (λ x. run_any t (sooner l x.lifetime) (sooner j x.lifetime) (g x.reply))
  where
    by : (y : Optional Answer) → ((x : Answer) → Same (run t (sooner l x.lifetime) (g x.reply)) (run t (sooner j x.lifetime) (g x.reply)))
        → Same {A = A} (answered y (wanting kind n c l) (λ x. run t (sooner l x.lifetime) (g x.reply)))
        (answered y (wanting kind n c j) (λ x. run t (sooner j x.lifetime) (g x.reply)))
    by absent h = lacking
    by (present x) h = h x

-- so what is settled once is settled from any lifetime
pub settles_to : {A : Type 0} (t : Table) (m : Check A) (a : A) (i j : Option ℕ) → Settles (run t i m) a j → SettlesTo t m a
settles_to {A} t m a i j e l = by (run t i m) (run t l m) (run_any t i l m) e
  where
    by : (x y : Settled A) → Same x y → x ≡ settled a j → (k : Option ℕ) × (y ≡ settled a k)
    by (settled b i') (settled b' j') decided q = (j', (let p : b ≡ a = ap inner q in rw p))
      where
        inner : Settled A → A
        inner (settled z w) = z
        inner (wanting kind n c w) = a
    by (wanting kind n c i') (wanting kind' n' c' j') lacking q = let z : ◌≡◌ {A = ℕ} 0 1 = cc in absurd (omega arith)
    by (settled b i') (wanting kind' n' c' j') x5 q = elim x5 [ ]
    by (wanting kind n c i') (settled b' j') x5 q = elim x5 [ ]

-- one check after another
pub bind_to : {A B : Type 0} (t : Table) (m : Check A) (f : A → Check B) (a : A) (b : B) → SettlesTo t m a → SettlesTo t (f a) b → SettlesTo t (bind m f) b
bind_to t m f a b p q l =
    let i = p l in
    let j = q i.0 in
    (j.0, bind_is t l m f a i.0 i.1 ∙ j.1)
