-- Bytes: classes of the bytes of macro strings, one inside another or apart.
pub mod Bytes
-- Braces: one macro-expand, read and produced.
pub mod Braces
-- Strings: macro strings and explain strings, piece after piece.
pub mod Strings
-- Toplabels: top labels, tested and produced.
pub mod Toplabels
-- Endings: how a domain-spec ends.
pub mod Endings
-- Soundness: what the reader accepts, the grammar produces, with these pieces.
pub mod Soundness
-- Completeness: what the grammar produces is accepted, with these pieces.
pub mod Completeness
-- Beginnings: whatever a macro-string or a domain-spec begins with is one, once one of a few ends is put after it.
pub mod Beginnings
-- Pieces: the piece at the front of a text, and the pieces of a text step by step.
pub mod Pieces
-- Labels: the last label of a text, and top labels.
pub mod Labels
-- Reading: the ways out of the functions that read macro strings.
pub mod Reading
-- Senders: the tests of the given values, and the parts of a sender.
pub mod Senders
-- Emitting: the texts of pieces, written one after the other.
pub mod Emitting
-- Expanding: the values of the letters, and the answers of an expansion.
pub mod Expanding
-- Answering: what an expansion answers, by the productions.
pub mod Answering
