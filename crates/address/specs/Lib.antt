-- What the contracts of this crate are said in.
-- Octets: an address as its octets, high-order first; IPv4-mapped clients.
pub mod Octets
-- Matching: the bits of an address, and when two addresses match at a prefix length.
pub mod Matching
-- Clearing: an address with the bits below a prefix length cleared, and that this tells which addresses match.
pub mod Clearing
-- Examples: cases that are proved by computation.
pub mod Examples
