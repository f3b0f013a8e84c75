-- What the contracts of this crate are said in.
-- Grammar: networks and prefix lengths as productions (RFC 7208 section 12, RFC 4291 section 2.2, with the house amendments).
pub mod Grammar
-- Answers: what each call answers, by the productions.
pub mod Answers
-- Reader: texts as the code reads them; the laws tie it to the productions.
pub mod Reader
-- Reader6: the same of IPv6 networks and of addresses of either family.
pub mod Reader6
-- Examples6: texts of IPv6 networks that are read, and texts that aren't.
pub mod Examples6
