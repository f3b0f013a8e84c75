-- What the contracts of this crate are said in.
-- Lines: what the program lint_record prints.
pub mod Lines
-- Writing: what private functions write.
pub mod Writing
-- Meaning: what `ok` means.
pub mod Meaning
