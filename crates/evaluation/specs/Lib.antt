-- What the contracts of this crate are said in; what both calls give together; how long a decision may be kept; demand 3; and that SPF entries are ignored.
-- Checks: what the parts of a check answer.
pub mod Checks
-- Numbers: what an evaluation as one call came to.
pub mod Numbers
-- Evaluating: the tests of 20 to 23, and an evaluation as one call.
pub mod Evaluating
-- First: what the first call answers, by the table's list of entries.
pub mod First
-- Second: what the second call answers.
pub mod Second
-- Together: both calls give what one gave, as statements.
pub mod Together
-- Keeping: how long the first call's decision may be kept, as one statement.
pub mod Keeping
-- Demand3: reading a record, reading its terms and evaluating, as one statement.
pub mod Demand3
-- SpfEntries: SPF entries are ignored, as one statement.
pub mod SpfEntries
