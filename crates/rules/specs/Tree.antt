-- A check as a tree of questions. It never looks into a table; `run` does, and hands on the smallest lifetime of the entries that it met.
use Rattle.std.specs.Prelude.{ℕ, min, ◌≡◌, refl, List, None, Option, Some}
use Rattle.records.specs.Readings.{Optional, absent, present}
use Rattle.rules.specs.declared.Counts.{Counts}

-- what a question is answered: failed; or its items, none where the name doesn't exist or has none of the kind
pub data Reply : Type 0 where
  failed : Reply
  items : List (List ℕ) → Reply

-- W-209 amends the house rules: an answer has a "lifetime in seconds"
pub record Answer : Type 0 where
  pub reply : Reply
  pub lifetime : ℕ

-- what a table has for a kind and a name
abbrev pub Table : Type 0
Table = ℕ → List ℕ → Optional Answer

-- a table answers a question with a reply, whatever the lifetime
abbrev pub Has : Table → ℕ → List ℕ → Reply → Type 0
Has t kind d r = (n : ℕ) × (t kind d ≡ present (record { reply = r; lifetime = n }))

pub data Check (A : Type 0) : Type 0 where
  -- the check is decided
  give : A → Check A
  -- a question's kind and name, and the counts that are reported if its answer is missing
  ask : ℕ → List ℕ → Counts → (Reply → Check A) → Check A

-- decided, or the question that is missing, with the counts so far; with the smallest lifetime met
pub data Settled (A : Type 0) : Type 0 where
  settled : A → Option ℕ → Settled A
  wanting : ℕ → List ℕ → Counts → Option ℕ → Settled A

unfoldable pub bind : {A B : Type 0} → Check A → (A → Check B) → Check B
bind (give a) f = f a
bind (ask k d c g) f = ask k d c (λ r. bind (g r) f)

unfoldable pub then : {A B : Type 0} → Settled A → (A → Option ℕ → Settled B) → Settled B
then (settled a l) f = f a l
then (wanting k d c l) f = wanting k d c l

unfoldable pub answered : {A : Type 0} → Optional Answer → Settled A → (Answer → Settled A) → Settled A
answered absent w f = w
answered (present x) w f = f x

-- W-209: "the smallest among the entries it consulted", one entry more
unfoldable pub sooner : Option ℕ → ℕ → Option ℕ
sooner None n = Some n
sooner (Some m) n = Some (min m n)

-- what a table settles; no rule of the evaluation sees a lifetime
unfoldable pub run : {A : Type 0} → Table → Option ℕ → Check A → Settled A
run t l (give a) = settled a l
run t l (ask k d c g) = answered (t k d) (wanting k d c l) (λ x. run t (sooner l x.lifetime) (g x.reply))

-- a table settles a check to a value, whatever lifetime it begins with
abbrev pub SettlesTo : {A : Type 0} → Table → Check A → A → Type 0
SettlesTo t m a = (l : Option ℕ) → (j : Option ℕ) × (run t l m ≡ settled a j)

answered_then : {A B : Type 0} (r : Optional Answer) (k : ℕ) (d : List ℕ) (c : Counts) (l : Option ℕ) (g : Answer → Settled A) (f : A → Option ℕ → Settled B)
    (h : Answer → Settled B) → ((x : Answer) → h x ≡ then (g x) f) → answered r (wanting k d c l) h ≡ then (answered r (wanting k d c l) g) f
unfolding answered then
answered_then absent k d c l g f h e = refl
answered_then (present x) k d c l g f h e = e x

-- one check after another
pub run_bind : {A B : Type 0} (t : Table) (l : Option ℕ) (m : Check A) (f : A → Check B) → run t l (bind m f) ≡ then (run t l m) (λ a j. run t j (f a))
unfolding run bind then
run_bind t l (give a) f = refl
run_bind t l (ask k d c g) f =
    answered_then (t k d) k d c l (λ x. run t (sooner l x.lifetime) (g x.reply)) (λ a j. run t j (f a)) (λ x. run t (sooner l x.lifetime) (bind (g x.reply) f))
    (λ x. run_bind t (sooner l x.lifetime) (g x.reply) f)
