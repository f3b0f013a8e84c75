-- What the contracts of this crate are said in.
-- House: the ten rules, one relation with a constructor for each.
pub mod House
-- Listing: the list of the breaches, what determines it, its bytes, and what the call answers.
pub mod Listing
-- Desk: what the call means for those who publish, as plain sentences.
pub mod Desk
-- Rows: the networks of a record as rows of words, which rule (9) compares.
pub mod Rows
-- Finding: the breaches as the code finds them; the laws tie them to House.
pub mod Finding
-- Examples: the cases of the readings, computed.
pub mod Examples
