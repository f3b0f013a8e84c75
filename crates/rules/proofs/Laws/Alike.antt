-- Two checks settle the same with a table, and a fact holds of what they settle: of the value, or of the question that is lacking. From the tree
-- alone: no rule of the evaluation is in it.
use Rattle.std.proofs.Common.{Option}
use Prim.Native.Nat.{ℕ}
use mathlib.Core.Path.{◌≡◌, refl, sym, ap, subst, ◌∙◌}
use mathlib.Core.List.{List}
use mathlib.Core.Bool.{Bool, true, false, cond}
use Rattle.records.specs.Readings.{Optional, absent, present}
use Rattle.rules.specs.declared.Counts.{Counts}
use Rattle.rules.specs.Tree.{Reply, Answer, Table, Has, Check, give, ask, Settled, settled, wanting, bind, then, answered, sooner, run, run_bind}

-- a fact of the value that is settled, or of the kind, the name and the counts of the question that is lacking
unfoldable pub Holds : {A : Type 0} → (ℕ → List ℕ → Counts → Type 0) → (A → Type 0) → Settled A → Type 0
Holds asked P (settled a l) = P a
Holds asked P (wanting kind n c l) = asked kind n c

pub holds_weaken : {A : Type 0} {asked wanted : ℕ → List ℕ → Counts → Type 0} (P : A → Type 0) → ((k : ℕ) (n : List ℕ) (c : Counts) → asked k n c → wanted k n c)
    → (x : Settled A) → Holds asked P x → Holds wanted P x
unfolding Holds
holds_weaken P f (settled a l) h = h
holds_weaken P f (wanting kind n c l) h = f kind n c h

pub record Alike {A : Type 0} (t : Table) (asked : ℕ → List ℕ → Counts → Type 0) (P : A → Type 0) (m m' : Check A) : Type 0 where
  pub same : (l : Option ℕ) → run t l m ≡ run t l m'
  pub holds : (l : Option ℕ) → Holds asked P (run t l m)

module _ {t : Table} {asked : ℕ → List ℕ → Counts → Type 0} where
  pub alike_give : {A : Type 0} {P : A → Type 0} {a : A} → P a → Alike t asked P (give a) (give a)
  unfolding run Holds
  alike_give h = record { same = λ l. refl; holds = λ l. h }

  -- a question, by the reply that the table has
  pub alike_ask : {A : Type 0} {P : A → Type 0} {kind : ℕ} {n : List ℕ} {c : Counts} {g : Reply → Check A} → asked kind n c
      → ((r : Reply) → Has t kind n r → Alike t asked P (g r) (g r)) → Alike t asked P (ask kind n c g) (ask kind n c g)
  unfolding run Holds answered
  alike_ask {P = P} {kind = kind} {n = n} {c = c} {g = g} q h = record { same = λ l. refl; holds = λ l. by l (t kind n) refl }
    where
      by : (l : Option ℕ) (x : Optional Answer) → t kind n ≡ x → Holds asked P (answered x (wanting kind n c l) (λ y. run t (sooner l y.lifetime) (g y.reply)))
      by l absent e = q
      by l (present y) e = (h y.reply (y.lifetime, e)).holds (sooner l y.lifetime)

  pub alike_cond : {A : Type 0} {P : A → Type 0} (b : Bool) {x x' y y' : Check A} → (b ≡ true → Alike t asked P x x') → (b ≡ false → Alike t asked P y y')
      → Alike t asked P (cond b x y) (cond b x' y')
  alike_cond true f g = f refl
  alike_cond false f g = g refl

  pub alike_bind : {A B : Type 0} {P : A → Type 0} {Q : B → Type 0} {m m' : Check A} {f f' : A → Check B} → Alike t asked P m m'
      → ((a : A) → P a → Alike t asked Q (f a) (f' a)) → Alike t asked Q (bind m f) (bind m' f')
  unfolding Holds then
  alike_bind {A} {B} {P} {Q} {m} {m'} {f} {f'} h k = record {
    same = λ l. run_bind t l m f ∙ (by (run t l m) (h.holds l)).0 ∙ ap (λ (x : Settled A). then x (λ a j. run t j (f' a))) (h.same l) ∙ sym (run_bind t l m' f');
    holds = λ l. subst (Holds asked Q) (sym (run_bind t l m f)) (by (run t l m) (h.holds l)).1;
  }
    where
      by : (x : Settled A) → Holds asked P x → (then x (λ a j. run t j (f a)) ≡ then x (λ a j. run t j (f' a))) × Holds asked Q (then x (λ a j. run t j (f a)))
      by (settled a j) p = ((k a p).same j, (k a p).holds j)
      by (wanting kind n c j) p = (refl, p)

  -- a weaker fact of the value
  pub alike_weaken : {A : Type 0} {P Q : A → Type 0} {m m' : Check A} → ((a : A) → P a → Q a) → Alike t asked P m m' → Alike t asked Q m m'
  unfolding Holds
  alike_weaken {A} {P} {Q} {m} f h = record { same = h.same; holds = λ l. by (run t l m) (h.holds l) }
    where
      by : (x : Settled A) → Holds asked P x → Holds asked Q x
      by (settled a j) p = f a p
      by (wanting kind n c j) p = p
