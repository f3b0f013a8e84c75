-- Columns: the ways of the functions that write a term's line.
pub mod Columns
-- Room: what is printed has at most 320,000 bytes.
pub mod Room
-- Walking: the ways of the functions that write the lines of a record.
pub mod Walking
-- Printing: what is printed of a record is one text.
pub mod Printing
