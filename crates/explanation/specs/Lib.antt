-- What the contracts of this crate's private functions are said in; the public one is said in the definitions of the crates below.
-- Stages: the pieces of an explanation.
pub mod Stages
