-- Items: items end to end: the reader against the productions, and one item after the other.
pub mod Items
-- Reading: the reader's steps as the code makes them.
pub mod Reading
-- Encoding: one entry and its items: the reader against the productions.
pub mod Encoding
-- Entries: the list of entries that a table encodes, and pairs in it.
pub mod Entries
-- Among: looking up against standing in a list of entries.
pub mod Among
-- Finding: `find` against the list of entries.
pub mod Finding
-- Checks: the check against the productions.
pub mod Checks
-- Marks: the marks of pairs, as the code reads and sets them.
pub mod Marks
-- Covering: the marks against the entries before a place.
pub mod Covering
-- Rules: one for each way out of the functions on the whole table.
pub mod Rules
-- Places: an entry's name and its items' bytes as parts of the table.
pub mod Places
-- Standing: where items stand in a table.
pub mod Standing
