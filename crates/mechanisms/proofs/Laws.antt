-- Counted: a mechanism that asks for a name, by its ways out.
pub mod Counted
-- Trying: what a term of each case comes to.
pub mod Trying
