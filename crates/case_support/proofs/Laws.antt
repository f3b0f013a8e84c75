-- Hex: bytes written in hex.
pub mod Hex
-- Values: numbers and addresses.
pub mod Values
-- Reading: a line as it is read.
pub mod Reading
