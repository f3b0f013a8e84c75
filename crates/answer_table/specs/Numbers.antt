-- The number and place of each answer of a check of the table.
use Rattle.std.specs.Prelude.{ℕ, Result, Ok, Err}
use Rattle.answer_table.specs.declared.TableError.{TableError}
use Rattle.answer_table.specs.declared.TableError.TheVariants.{TooLong, Malformed, Repeated}

-- a byte place in the table, or none
pub data Place : Type 0 where
  nowhere : Place
  byte : ℕ → Place

-- accepted, with the number of entries; or refused, with the number and the place
pub data Report : Type 0 where
  accepted : ℕ → Report
  refused : ℕ → Place → Report

-- 24 "table over 65,535 bytes"; 25 "entry malformed, or a 513th", with "its place in the table"; 26 "pair seen before", with "place of the second"
abbrev pub reported : Result ℕ TableError → Report
reported (Ok n) = accepted n
reported (Err TooLong) = refused 24 nowhere
reported (Err (Malformed p)) = refused 25 (byte p)
reported (Err (Repeated p)) = refused 26 (byte p)
