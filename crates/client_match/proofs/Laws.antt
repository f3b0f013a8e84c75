-- Asked: what a table's bytes answer a question, by what `find` finds.
pub mod Asked
-- Addresses: whether the items of an address answer match, item after item.
pub mod Addresses
