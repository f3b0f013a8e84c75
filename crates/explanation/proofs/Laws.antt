-- Showing: the text of an explanation, from a value of p to what is shown: a rule for each way out.
pub mod Showing
-- Fetching: an explanation's questions: a rule for each way out.
pub mod Fetching
