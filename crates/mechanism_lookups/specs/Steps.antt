-- What the code says of a void question; and what an answer says of a question, for any use of it.
use Rattle.std.specs.Prelude.{ℕ, ◌≡◌, List, Bool, true, false, cond, ltb, length, Option, Ok, Err, Result as Outcome}
use Rattle.answer_table.specs.Reader.{items_of}
use Rattle.rules.specs.declared.Counts.{Counts}
use Rattle.rules.specs.declared.Progress.{Progress}
use Rattle.rules.specs.declared.Ending.{Ending}
use Rattle.rules.specs.Tree.{Check, settled, run}
use Rattle.rules.specs.Tables.{table_in}
use Rattle.rules.specs.Mechanisms.{Match, Step, most_voids, voided, own_question}
use Rattle.rules.specs.Outcomes.{Steps}
use Rattle.mechanism_lookups.specs.declared.replies.Asked.{Asked}

-- a void answer: counted, and the third is a permerror
pub record CountsVoid (c k : Counts) (r : Outcome (Unit {0}) Ending) : Type 0 where
  pub counted : k ≡ voided c
  pub third : r ≡ cond (ltb c.voids most_voids) (Ok tt) (Err (Ending.Result 6))

-- a fact of a question for any use of it: whatever a failed answer gives, and whatever becomes of the items
abbrev pub ForAnyUse : (Match → (List (List ℕ) → Check Step) → Type 0) → Type 0
ForAnyUse P = (m : Match) (rest : List (List ℕ) → Check Step) → P m rest

-- nothing but the lifetime has changed
pub record Kept (p q : Progress) (before after : List ℕ) : Type 0 where
  pub counts_kept : q.counts ≡ p.counts
  pub name_kept : after ≡ before

-- what an answer says of the question of a kind and a name, with the table's bytes t: what ends the check; that it failed; that it is void; or its items
unfoldable pub AskedIs : (t : List ℕ) → (kind : ℕ) → (name : List ℕ) → (p q : Progress) → Outcome Asked Ending → (before after : List ℕ) → Type 0
AskedIs t kind n p q (Err e) b a = ForAnyUse (λ m rest. Steps t (own_question m p.counts kind n rest) p q (Err e) b a)
AskedIs t kind n p q (Ok Asked.Void) b a = ForAnyUse (λ m rest. Steps t (own_question m p.counts kind n rest) p q (Ok false) b a)
AskedIs t kind n p q (Ok Asked.Failed) b a =
    Kept p q b a × ForAnyUse (λ m rest. run (table_in t) p.life (own_question m p.counts kind n rest) ≡ settled (record { match = m; counts = p.counts }) q.life)
AskedIs t kind n p q (Ok (Asked.Items s)) b a =
    Kept p q b a × ForAnyUse (λ m rest. run (table_in t) p.life (own_question m p.counts kind n rest) ≡ run (table_in t) q.life (rest (items_of s.now)))
