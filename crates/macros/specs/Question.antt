-- The question name of an expansion: "over 4,096 bytes is malformed (house choice); drop one trailing dot, and no second one later; while over 253
-- bytes, labels leave from the left, each with its dot, as long as a dot remains"; then lowered, and well-formed or malformed.
use Rattle.std.specs.Prelude.{ℕ, List, cond, length, leb}
use Rattle.domain.specs.Normal.{Naming, malformed, without_dot, lowered}
use Rattle.domain.specs.Shortening.{shortened}

-- the longest expansion that may be a name
abbrev pub most_expansion : ℕ
most_expansion = 4096

unfoldable pub question_name : List ℕ → Naming
question_name s = cond (leb (length s) most_expansion) (lowered (shortened (without_dot s))) malformed
