-- Candidates one after the other: those of two lists end to end are those of the first and, where none matches, those of the second, from the counts
-- that the first left. From what a table settles of one check after another, for any candidates.
use Rattle.std.proofs.Common.{Option, ℕ}
use mathlib.Core.Path.{◌≡◌, refl, sym, ap, ◌∙◌}
use mathlib.Core.List.{List, [], ◌∷◌, ◌++◌}
use Rattle.rules.specs.declared.Counts.{Counts}
use Rattle.rules.specs.Tree.{Table, Check, Settled, settled, wanting, bind, then, run, run_bind}
use Rattle.rules.specs.Mechanisms.{Match, yes, no, stop, Step, on_match, if_no_match, until_match}

module _ (t : Table) (more rest next : Counts → Check Step) (h : (k : Counts) (l : Option ℕ) → run t l (more k) ≡ run t l (bind (rest k) (if_no_match next))) where
  match_then : (m : Match) (k : Counts) (l : Option ℕ) → run t l (on_match more m k) ≡ then (run t l (on_match rest m k)) (λ s j. run t j (if_no_match next s))
  unfolding on_match then run
  match_then yes k l = refl
  match_then no k l = h k l ∙ run_bind t l (rest k) (if_no_match next)
  match_then (stop v) k l = refl

  -- a step and then the rest, where the rest is in two parts
  step_then : (x : Settled Step) → then x (λ s j. run t j (if_no_match more s)) ≡ then (then x (λ s j. run t j (if_no_match rest s))) (λ s j. run t j (if_no_match next s))
  unfolding then
  step_then (settled s l) = match_then s.match s.counts l
  step_then (wanting kind n c l) = refl

pub until_append : {A : Type 0} (t : Table) (f : A → Counts → Check Step) (xs ys : List A) (c : Counts) (l : Option ℕ)
    → run t l (until_match f (xs ++ ys) c) ≡ run t l (bind (until_match f xs c) (if_no_match (until_match f ys)))
unfolding until_match on_match bind
until_append t f [] ys c l = refl
until_append t f (x ∷ xs) ys c l =
    run_bind t l (f x c) (if_no_match (until_match f (xs ++ ys)))
    ∙ step_then t (until_match f (xs ++ ys)) (until_match f xs) (until_match f ys) (until_append t f xs ys) (run t l (f x c))
    ∙ ap (λ (u : Settled Step). then u (λ s j. run t j (if_no_match (until_match f ys) s))) (sym (run_bind t l (f x c) (if_no_match (until_match f xs))))
    ∙ sym (run_bind t l (bind (f x c) (if_no_match (until_match f xs))) (if_no_match (until_match f ys)))
