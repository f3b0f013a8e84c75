-- Breaches: the ways of the functions that write a breach.
pub mod Breaches
-- Walking: the ways of the functions that write the breaches of a list.
pub mod Walking
-- Room: what is printed has at most 2,200,000 bytes.
pub mod Room
-- Printing: what is printed is one text, and no byte past 4,354 of an input matters.
pub mod Printing
-- Answering: the ways of the functions that answer an input.
pub mod Answering
-- Meaning: `ok` is printed of just those records that may be published.
pub mod Meaning
