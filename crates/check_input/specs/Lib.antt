-- Input: what an input of the check program means.
pub mod Input
-- Lines: what the check program prints.
pub mod Lines
-- Keeping: what of an input is held while it is read.
pub mod Keeping
