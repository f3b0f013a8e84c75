-- Folding: a state that each byte moves on.
pub mod Folding
-- Atoms: dot-atom-text against its test.
pub mod Atoms
-- Quoting: values with their backslashes and back, and the answers of `unquote`.
pub mod Quoting
-- Lines: the line piece by piece against its production, and the answers of writing.
pub mod Lines
-- Reading: the ways out of the reader.
pub mod Reading
-- Parsing: the parts of a written line, where the reader looks for them.
pub mod Parsing
-- Clients: the address of a client's text.
pub mod Clients
-- Inverse: what the reader accepts is what writing gives.
pub mod Inverse
-- Deciding: what a call is lent determines what it hands back.
pub mod Deciding
-- RoundTrip: the three calls together.
pub mod RoundTrip
