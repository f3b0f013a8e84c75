-- Words: what the words of a case write.
pub mod Words
-- Lines: what is promised of a line of the input.
pub mod Lines
