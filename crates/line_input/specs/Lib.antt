-- What the contracts of this crate are said in.
-- Lines: what is printed of an input, by the productions.
pub mod Lines
-- Reader: the same as the code finds it, for private functions.
pub mod Reader
