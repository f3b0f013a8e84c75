-- What the contracts of this crate are said in.
-- Atoms: dot-atom-text (RFC 5322 section 3.2.3) as a production.
pub mod Atoms
-- Quoting: quoting and unquoting, on lists.
pub mod Quoting
-- Line: the Received-SPF line (RFC 7208 section 9.1) as a production, with the places of its parts.
pub mod Line
-- Numbers: the answer of a call that writes, and the lent buffer afterwards.
pub mod Numbers
-- Answers: what the three calls answer, by the production.
pub mod Answers
-- RoundTrip: reading and writing are inverse, as statements about the three calls.
pub mod RoundTrip
-- States: tests and readers byte by byte, for private functions.
pub mod States
-- Texts: the line as text and the places of its parts, for private functions.
pub mod Texts
-- Reader: a line as the code reads it.
pub mod Reader
-- Examples: lines that are computed.
pub mod Examples
