-- W-207 amends the house rules: entries of kind 99 are "still checked for 25 and 26, then ignored". As one statement about both calls: for any answers
-- that meet what their `ensures` promise (`Evaluates`, `Explains`).
use Rattle.std.specs.Prelude.{ℕ, ◌≤◌, ◌≡◌, ◌↔◌, List, true, length}
use Rattle.answer_table.specs.Layout.{Entry, kind_spf, Among}
use Rattle.answer_table.specs.Answers.{Encoded, most_bytes}
use Rattle.evaluation.specs.Evaluating.{has_room}
use Rattle.evaluation.specs.First as first
use Rattle.evaluation.specs.Together.{Given, BothGive, with_table, SameButPlace}

-- two lists have the same entries but for those of kind 99, in whatever order
abbrev pub SameButSpf : List Entry → List Entry → Type 0
SameButSpf es fs = (e : Entry) → (e.kind ≡ kind_spf → ⊥) → Among e es ↔ Among e fs

-- For all arguments, fitting or not: over two accepted tables with the same entries but for those of kind 99 the first call has the same answer but for
-- where the exp argument stands, and both calls give the same together.
abbrev pub SpfIgnored : Type 0
SpfIgnored =
    (a : first.Lent) (t u : List ℕ) (es fs : List Entry) → length t ≤ most_bytes → Encoded t es → length u ≤ most_bytes → Encoded u fs
    → SameButSpf es fs → (h g : first.Handed) → first.Evaluates (with_table a t) h → first.Evaluates (with_table a u) g
    → SameButPlace t u h g
    × ((name text : List ℕ) → has_room name text ≡ true → (x y : Given) → BothGive (with_table a t) h name text x → BothGive (with_table a u) g name text y → x ≡ y)
