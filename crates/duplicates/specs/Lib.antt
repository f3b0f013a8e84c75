-- What the contracts of this crate are said in.
-- Rows: which rows of a table are the same as an earlier one.
pub mod Rows
-- Orders: the order of row numbers.
pub mod Orders
-- Marking: what the functions below `mark_duplicates` promise.
pub mod Marking
