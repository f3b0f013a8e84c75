-- What the contracts of this crate are said in.
-- Readings: what a term says; a reading is a list of them with their places.
pub mod Readings
-- Grammar: records as productions (RFC 7208's collected ABNF with the house amendments).
pub mod Grammar
-- Numbers: the number and values of each answer.
pub mod Numbers
-- Answers: what each call answers, by the productions.
pub mod Answers
-- Reader: records as the code reads them; the laws tie it to the productions.
pub mod Reader
-- Beginnings: the longest beginning of a term as the code finds it, and the law that ties it to the productions.
pub mod Beginnings
-- Opening: a record read for a client: what its leading terms say without a lookup, and where redirect and exp stand.
pub mod Opening
-- Claim: what reading a record and then its terms promise together.
pub mod Claim
-- Examples: cases that are proved by computation.
pub mod Examples
