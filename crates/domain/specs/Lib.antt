-- What the contracts of this crate are said in.
-- Names: domain names, their labels, well-formed names, at or below.
pub mod Names
-- Normal: a name without its trailing dot and in lower case, or malformed.
pub mod Normal
-- Shortening: labels that leave an over-long name from the left.
pub mod Shortening
