-- What the contracts of this crate are said in.
-- Transform: split, reverse, keep, join, escape.
pub mod Transform
-- Examples: cases that are proved.
pub mod Examples
