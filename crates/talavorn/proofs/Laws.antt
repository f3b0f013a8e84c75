-- Inside: the argument of a term that was read stands within the term.
pub mod Inside
-- Rows: the numbers of each case of an answer.
pub mod Rows
-- Ways: the ways out of the calls.
pub mod Ways
