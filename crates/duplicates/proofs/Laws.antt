-- Orders: the order of rows and of their numbers, and a list that is sorted by it.
pub mod Orders
-- Merging: lists in order that are merged, and a list that is sorted by halves.
pub mod Merging
-- Places: at which places a number stands in a list; the numbers below n in any order.
pub mod Places
-- Marking: rows marked in their sorted order are those that are the same as an earlier one.
pub mod Marking
