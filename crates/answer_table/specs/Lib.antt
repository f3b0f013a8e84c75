-- What the contracts of this crate are said in.
-- Layout: the answer table as productions: entries and the bytes that encode them.
pub mod Layout
-- Numbers: the number and place of each answer of a check of the table.
pub mod Numbers
-- Answers: when a table is accepted, and when and where it is refused.
pub mod Answers
-- Lookup: the entry of a kind and a name.
pub mod Lookup
-- Standing: where an item stands in a table.
pub mod Standing
-- Reader: the entries and items of a table, read as the code reads them; the laws tie it to the productions.
pub mod Reader
-- Marks: the bits that are set for the pairs that a check has met.
pub mod Marks
-- Walking: what the walk over the places of items gives.
pub mod Walking
-- Examples: the sentences on the table, computed.
pub mod Examples
