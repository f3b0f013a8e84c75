-- What the contracts of this crate are said in.
-- Numbers: the numbers that the calls hand back for each answer.
pub mod Numbers
-- Calls: what each call comes to, and the lent arrays and buffers afterwards.
pub mod Calls
