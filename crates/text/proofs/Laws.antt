-- Orders: two numbers, one way or the other.
pub mod Orders
-- Tests: a branch's test as the Boolean that a definition picks by.
pub mod Tests
-- Classes: bytes of a class as numbers; a class by its own test; two tests that agree at all 256 bytes.
pub mod Classes
-- Sets: a set that holds a class.
pub mod Sets
-- Words: equality of lists.
pub mod Words
-- Parts: tests of every element, the last element, and the right-most elements.
pub mod Parts
-- Fronts: the fronts of a list, and what completes one.
pub mod Fronts
-- Spans: a word that stands in a list from a place up to another.
pub mod Spans
-- Runs: longest runs of a class.
pub mod Runs
-- Splitting: lists split at delimiters and joined by a separator.
pub mod Splitting
-- Fields: the loops over a text's fields.
pub mod Fields
-- Writing: bytes written into a buffer.
pub mod Writing
-- Digits: numbers in decimal.
pub mod Digits
