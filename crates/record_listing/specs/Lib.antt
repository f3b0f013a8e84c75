-- Lines: what the record printer prints.
pub mod Lines
