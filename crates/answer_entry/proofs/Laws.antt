-- Encoding: the bytes of an entry, written piece after piece, and when they are those of the layout.
pub mod Encoding
-- Fitting: the tests of the code against the check of the new table.
pub mod Fitting
-- Rules: one for each way out of the functions of src/lib.rt.
pub mod Rules
-- Appended: what appending determines, and the entries of the new table.
pub mod Appended
