-- Labels: whether every label fits, by runs of label bytes; counts of labels.
pub mod Labels
-- Lowering: A to Z lowered, a name is a name as it was; what the writers of names answer.
pub mod Lowering
-- Below: at or below a target, by labels and by bytes.
pub mod Below
-- Shortening: what is left of an over-long name.
pub mod Shortening
-- TableNames: names as they stand in the table, label by label.
pub mod TableNames
