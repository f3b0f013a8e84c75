-- What the contract of this crate is said in.
-- Printing: what the program add_lifetimes prints.
pub mod Printing
