-- The number and place of each answer of rewriting a table.
use Rattle.std.specs.Prelude.{ℕ, Result, Ok, Err}
use Rattle.answer_table.specs.Numbers.{nowhere, byte}
use Rattle.answer_table.specs.declared.TableError.{TableError}
use Rattle.answer_table.specs.declared.TableError.TheVariants.{TooLong, Malformed, Repeated}
use Rattle.old_layout.specs.Rewriting.{Outcome, written, refused}

abbrev pub outcome_of : Result ℕ TableError → Outcome
outcome_of (Ok n) = written n
outcome_of (Err TooLong) = refused 24 nowhere
outcome_of (Err (Malformed p)) = refused 25 (byte p)
outcome_of (Err (Repeated p)) = refused 26 (byte p)
