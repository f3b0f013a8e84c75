-- What the contracts inside this crate are said in.
-- Steps: the answers of a void question and of a test, and what an answer says of a question.
pub mod Steps
-- Preferences: the MX items by their preferences.
pub mod Preferences
