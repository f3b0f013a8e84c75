-- The number and place of each answer of appending an entry.
use Rattle.std.specs.Prelude.{ℕ, Result, Ok, Err}
use Rattle.answer_table.specs.Numbers.{nowhere, byte}
use Rattle.answer_table.specs.declared.TableError.TheVariants.{TooLong, Malformed, Repeated}
use Rattle.answer_entry.specs.Appending.{Outcome, appended, refused}
use Rattle.answer_entry.specs.declared.AppendError.{AppendError}
use Rattle.answer_entry.specs.declared.AppendError.TheVariants.{Table, InTable, Unfit}

abbrev pub outcome_of : Result ℕ AppendError → Outcome
outcome_of (Ok n) = appended n
outcome_of (Err (Table TooLong)) = refused 24 nowhere
outcome_of (Err (Table (Malformed p))) = refused 25 (byte p)
outcome_of (Err (Table (Repeated p))) = refused 26 (byte p)
outcome_of (Err InTable) = refused 64 nowhere
outcome_of (Err Unfit) = refused 65 nowhere
