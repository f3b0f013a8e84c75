-- An explanation asks the same and comes to the same from any counts: they are only reported with a question that is lacking. So the second call, which
-- has counts of 0, gives the text or the question that one evaluation gave. By the definitions, question by question.
use Rattle.std.proofs.Common.{Option}
use Prim.Native.Nat.{ℕ}
use mathlib.Core.Path.{◌≡◌, refl}
use mathlib.Core.List.{List, [], ◌∷◌}
use mathlib.Core.Bool.{Bool, true, false, cond}
use Rattle.address.specs.declared.Address.{Address}
use Rattle.domain.specs.Normal.{Naming, name, malformed}
use Rattle.macros.specs.declared.Form.{Form}
use Rattle.macros.specs.Reader.{is_macro_string, uses_p}
use Rattle.records.specs.Readings.{Optional, absent, present}
use Rattle.rules.specs.declared.Counts.{Counts}
use Rattle.rules.specs.Tree.{Reply, failed, items, Answer, Table, Check, give, ask, Settled, settled, wanting, bind, answered, sooner, run}
use Rattle.rules.specs.Mechanisms.{Mail, with_valid, validated, names_of, gives_chosen, p_reply, p_value, gives_expansion, expanded, gives_name, target}
use Rattle.rules.specs.Evaluation.{gives_shown, explained, explain_reply, explain_name, explanation}

-- what is settled, with the counts c reported for a question that is lacking
unfoldable pub recounted : {A : Type 0} → Counts → Settled A → Settled A
recounted c (settled a l) = settled a l
recounted c (wanting kind n e l) = wanting kind n c l

-- two checks that are the same but for their counts: c throughout, and e throughout
data Same (c e : Counts) {A : Type 0} : Check A → Check A → Type 0 where
  gives : {a : A} → Same c e (give a) (give a)
  asks : {kind : ℕ} {n : List ℕ} {g h : Reply → Check A} → ((r : Reply) → Same c e (g r) (h r)) → Same c e (ask kind n c g) (ask kind n e h)

same_run : {c e : Counts} {A : Type 0} (t : Table) (l : Option ℕ) {m m' : Check A} → Same c e m m' → run t l m ≡ recounted c (run t l m')
unfolding run recounted answered
same_run t l gives = refl
same_run {c} {e} {A} t l (asks {kind = kind} {n = n} {g = g} {h = h} s) = by (λ x. same_run t (sooner l x.lifetime) (s x.reply)) (t kind n)
  where
    after : (Reply → Check A) → Answer → Settled A
    after f x = run t (sooner l x.lifetime) (f x.reply)

    by : ((x : Answer) → after g x ≡ recounted c (after h x)) → (y : Optional Answer) → answered y (wanting kind n c l) (after g) ≡ recounted c (answered y (wanting kind n e l) (after h))
    by f absent = refl
    by f (present r) = f r

module _ (c e : Counts) where
  same_bind : {A B : Type 0} {m m' : Check A} {f f' : A → Check B} → Same c e m m' → ((a : A) → Same c e (f a) (f' a)) → Same c e (bind m f) (bind m' f')
  unfolding bind
  same_bind (gives {a = a}) k = k a
  same_bind (asks s) k = asks (λ r. same_bind (s r) k)

  same_cond : {A : Type 0} (b : Bool) {x x' y y' : Check A} → Same c e x x' → Same c e y y' → Same c e (cond b x y) (cond b x' y')
  same_cond true p q = p
  same_cond false p q = q

  -- p's questions
  same_validated : (client : Address) (ns found : List (List ℕ)) → Same c e (validated client c ns found) (validated client e ns found)
  unfolding validated
  same_validated client [] found = gives
  same_validated client (n ∷ ns) found = asks (λ r. same_validated client ns (with_valid client n found r))

  same_p : (client : Address) (d : List ℕ) → Same c e (p_value client d c) (p_value client d e)
  unfolding p_value p_reply gives_chosen
  same_p client d = asks (λ r. same_bind (same_validated client (names_of r) []) (λ _. gives))

  same_expanded : (mail : Mail) (d : List ℕ) (form : Form) (text : List ℕ) → Same c e (expanded mail d form text c) (expanded mail d form text e)
  unfolding expanded gives_expansion
  same_expanded mail d form text = same_cond (uses_p form text) (same_bind (same_p mail.client d) (λ _. gives)) gives

  same_target : (mail : Mail) (d spec : List ℕ) → Same c e (target mail d spec c) (target mail d spec e)
  unfolding target gives_name
  same_target mail d spec = same_bind (same_expanded mail d Form.DomainSpec spec) (λ _. gives)

  -- the text
  module _ (mail : Mail) (d : List ℕ) where
    same_explained : (ss : List (List ℕ)) → Same c e (explained mail d c ss) (explained mail d e ss)
    unfolding explained gives_shown
    same_explained [] = gives
    same_explained (s ∷ []) = same_cond (is_macro_string Form.Explanation s) (same_bind (same_expanded mail d Form.Explanation s) (λ _. gives)) gives
    same_explained (s ∷ u ∷ r) = gives

    same_reply : (r : Reply) → Same c e (explain_reply mail d c r) (explain_reply mail d e r)
    unfolding explain_reply
    same_reply failed = gives
    same_reply (items ss) = same_explained ss

    same_name : (x : Naming) → Same c e (explain_name mail d c x) (explain_name mail d e x)
    unfolding explain_name
    same_name malformed = gives
    same_name (name n) = asks same_reply

    same_explanation : (exp : Optional (List ℕ)) → Same c e (explanation mail d exp c) (explanation mail d exp e)
    unfolding explanation
    same_explanation absent = gives
    same_explanation (present exp) = same_bind (same_target mail d exp) same_name

pub recounts : (t : Table) (l : Option ℕ) (mail : Mail) (d : List ℕ) (exp : Optional (List ℕ)) (c e : Counts)
    → run t l (explanation mail d exp c) ≡ recounted c (run t l (explanation mail d exp e))
recounts t l mail d exp c e = same_run t l (same_explanation c e mail d exp)
