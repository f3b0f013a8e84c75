-- What the contracts of this crate are said in.
-- Digits: numbers in decimal and in lower-case hex.
pub mod Digits
-- Forms: the texts of an address: i, c, v, and the name that a PTR question asks.
pub mod Forms
-- Rows: numbers in a row, place by place, for private functions.
pub mod Rows
-- Examples: texts of addresses that are proved.
pub mod Examples
