-- Theorems on the evaluation, and laws that the proofs of the crates above cite.
pub mod Laws
