-- What the contracts of this crate are said in.
-- Grammar: macro strings as productions (RFC 7208 section 7.1 with the house amendments).
pub mod Grammar
-- Reader: macro strings as the code reads them; the laws tie it to the productions.
pub mod Reader
-- Expansion: the value of each letter, and what a macro string expands to.
pub mod Expansion
-- Numbers: the number of each answer of an expansion, and the lent buffer afterwards.
pub mod Numbers
-- Answers: what an expansion answers, by the productions.
pub mod Answers
-- Question: the question name of an expansion.
pub mod Question
-- Examples: expansions that are proved.
pub mod Examples
