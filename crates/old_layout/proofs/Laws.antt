-- Entries: the entries of the new table are those of the old one, and it is one table.
pub mod Entries
-- Outcomes: what rewriting determines, and the table that is written.
pub mod Outcomes
-- Rules: one for each way out of the functions of src/lib.rt.
pub mod Rules
