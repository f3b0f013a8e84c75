-- Replies: what a question comes to, by what the table has for it.
pub mod Replies
-- Onward: questions one after the other, until one decides.
pub mod Onward
-- Preferences: the hosts by preference, one preference after another.
pub mod Preferences
-- Loops: the loops over items, a rule for each way out.
pub mod Loops
