-- Picks: the records among the items of an entry, item after item.
pub mod Picks
-- Lookups: record lookup by the entry that was found.
pub mod Lookups
