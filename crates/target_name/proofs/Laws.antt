-- Choosing: what the choice tells of the names validated so far.
pub mod Choosing
-- Asking: p's questions: a rule for each way out.
pub mod Asking
-- Expansions: an expansion in an array, and what goes on with one once p is known.
pub mod Expansions
-- Naming: the name of a target: a rule for each way out.
pub mod Naming
-- Plain: a text without macros is its own expansion.
pub mod Plain
