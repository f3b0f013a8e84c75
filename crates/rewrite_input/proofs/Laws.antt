-- Printing: what is printed is one text, and how much of an input matters.
pub mod Printing
-- Answering: one rule for each way out of `answer_input`.
pub mod Answering
