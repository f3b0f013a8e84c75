-- The questions that a check asks, and tables that have the same for them.
use Rattle.std.specs.Prelude.{ℕ, ◌≡◌, List, [], ◌∷◌}
use Rattle.records.specs.Readings.{Optional, absent, present}
use Rattle.rules.specs.Tree.{Answer, Table, Check, give, ask}

pub record Question : Type 0 where
  pub kind : ℕ
  pub name : List ℕ

unfoldable pub onward : Optional Answer → (Answer → List Question) → List Question
onward absent f = []
onward (present x) f = f x

-- the questions met on the way, in order: those answered, and last the one that is missing
unfoldable pub trail : {A : Type 0} → Table → Check A → List Question
trail t (give a) = []
trail t (ask k d c g) = record { kind = k; name = d } ∷ onward (t k d) (λ x. trail t (g x.reply))

pub data All (P : Question → Type 0) : List Question → Type 0 where
  done : All P []
  both : {q : Question} {qs : List Question} → P q → All P qs → All P (q ∷ qs)

-- two tables have the same for a question
abbrev pub SameAt : Table → Table → Question → Type 0
SameAt t u q = u q.kind q.name ≡ t q.kind q.name
