-- Numerals: a number's numeral, as it is written digit by digit, and the number that it is read as.
pub mod Numerals
-- Rows: rows of numbers with a separator between them, and the texts of addresses as rows.
pub mod Rows
-- Lengths: how long the texts are at most.
pub mod Lengths
