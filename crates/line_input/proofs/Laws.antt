-- Lines: the ways of the functions that write lines.
pub mod Lines
-- Inputs: the ways of the functions that read an input.
pub mod Inputs
-- SixLines: six lines against the productions.
pub mod SixLines
-- Printing: what is printed is by the productions one text, of at most 1,500 bytes, and a line that is printed is read back.
pub mod Printing
-- Answering: the way of the function that answers an input.
pub mod Answering
