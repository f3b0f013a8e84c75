-- What the contracts of this crate are said in.
-- Rewriting: a table of the old layout in the new one, by the layout and the check of tables.
pub mod Rewriting
-- Numbers: the number and place of each answer.
pub mod Numbers
-- Writing: what private functions write.
pub mod Writing
-- Examples: tables rewritten by hand.
pub mod Examples
