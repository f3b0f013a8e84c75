-- Delimiters: the length of the first part.
pub mod Delimiters
-- Escaping: unreserved bytes, hex digits, escaped texts.
pub mod Escaping
-- Counts: how many parts the digits keep.
pub mod Counts
-- Parts: parts in their order, in reverse, and the right-most ones.
pub mod Parts
