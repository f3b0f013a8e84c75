-- What the contracts of this crate are said in, besides the definitions of the crates below.
-- Picking: which of an entry's texts are records, by their places in the table.
pub mod Picking
