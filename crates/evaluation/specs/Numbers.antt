-- What an evaluation as one call came to, and the number and values of each case. W-203 amends the house rules: two calls "Together .. give what one gave"
-- (Together.antt); the check program prints it.
use Rattle.std.specs.Prelude.{ℕ, List, cond, eqb}
use Rattle.records.specs.Readings.{Optional, absent, present}
use Rattle.rules.specs.Tree.{Settled, settled, wanting}
use Rattle.rules.specs.Results.{result_fail}
use Rattle.rules.specs.Evaluation.{Verdict}

-- what is handed back: the number, the kind or place where there is one, both counts, and, by W-209, the lifetime "after the counts"
pub record Report : Type 0 where
  pub number : ℕ
  pub kind_or_place : Optional ℕ
  pub lookups : ℕ
  pub voids : ℕ
  pub lifetime : ℕ

-- what an evaluation comes to: refused, without or with a place; or what the table settles, with the lifetime of its first call
pub data Outcome : Type 0 where
  refused : ℕ → Outcome
  refused_at : ℕ → ℕ → Outcome
  settles : Settled Verdict → ℕ → Outcome

-- 0 to 6 "evaluation done": "both counts"; "7 wanting": "kind", "counts so far"; 25: "its place in the table"; 26: "place of the second"; "Refusals report
-- counts of 0.", and a lifetime of 0 too
unfoldable pub report_of : Outcome → Report
report_of (refused number) = record { number = number; kind_or_place = absent; lookups = 0; voids = 0; lifetime = 0 }
report_of (refused_at number place) = record { number = number; kind_or_place = present place; lookups = 0; voids = 0; lifetime = 0 }
report_of (settles (settled v l) life) = record { number = v.value; kind_or_place = absent; lookups = v.counts.lookups; voids = v.counts.voids; lifetime = life }
report_of (settles (wanting kind n c l) life) = record { number = 7; kind_or_place = present kind; lookups = c.lookups; voids = c.voids; lifetime = life }

-- what comes with a number: a fail's text, a wanted question's name, and nothing with any other
unfoldable pub bytes_of : Outcome → Optional (List ℕ)
bytes_of (refused number) = absent
bytes_of (refused_at number place) = absent
bytes_of (settles (settled v l) life) = cond (eqb v.value result_fail) (present v.text) absent
bytes_of (settles (wanting kind n c l) life) = present n
