-- What the contracts of this crate are said in.
-- Terms: the own questions of each mechanism, and what a term comes to that is no include.
pub mod Terms
