-- What the contracts of this crate's private functions and of `find_p_for` are said in; the other public ones are said in the definitions of the crates below.
-- Choosing: the choice among p's names, name after name, and the value of p that a text is expanded with.
pub mod Choosing
