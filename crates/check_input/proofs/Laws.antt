-- Inputs: the ways of the check of an input.
pub mod Inputs
-- Lines: the ways of the functions that write the lines of an answer.
pub mod Lines
-- Answering: the lines are those of what the input comes to.
pub mod Answering
-- Addresses: an address has at most 45 bytes.
pub mod Addresses
-- Times: leading zeros and over-long numbers.
pub mod Times
-- Keeping: the answer depends on no byte that isn't kept.
pub mod Keeping
-- Holding: the ways of the functions that keep an input, and chunk after chunk.
pub mod Holding
