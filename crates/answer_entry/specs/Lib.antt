-- What the contracts of this crate are said in.
-- Encoding: the bytes of an entry, by the layout and as they are written.
pub mod Encoding
-- Appending: an entry added to a table, by the layout and the check of tables.
pub mod Appending
-- Numbers: the number and place of each answer.
pub mod Numbers
-- Fitting: the tests that the code makes before it writes.
pub mod Fitting
-- Examples: the bytes of entries by hand, and the check of tables with them.
pub mod Examples
