-- What the contracts of this crate, and of those above it, are said in.
-- Bytes: bytes of a list, their classes, lower case.
pub mod Bytes
-- Texts: a quoted text as its bytes.
pub mod Texts
-- Lists: equality, tests of every element, splitting, joining.
pub mod Lists
-- Runs: the longest run of a class.
pub mod Runs
-- Sets: bytes as sets, and a set that holds a class.
pub mod Sets
-- Decimal: numbers in decimal.
pub mod Decimal
-- Fields: the parts of a text between separators.
pub mod Fields
-- Writing: bytes written into a lent buffer.
pub mod Writing
