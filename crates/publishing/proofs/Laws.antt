-- Listings: lists of breaches, and that there is one list of them.
pub mod Listings
-- Tests: each rule's test holds exactly if the rule is broken.
pub mod Tests
-- Arguments: every domain-spec is a macro-string as rule (2) says it.
pub mod Arguments
-- Findings: what is found, put in order, is the list of the breaches.
pub mod Findings
-- Ordering: breaches written one after the other and by rule, and read back.
pub mod Ordering
-- Kinds: what a term is, by its case.
pub mod Kinds
-- Networks: the row of a network, how many bytes its term has, and that it fits its width.
pub mod Networks
-- Rows: one row is the same as another exactly if the networks are.
pub mod Rows
-- Tables: rows in a table, and what the marks say of the networks.
pub mod Tables
-- Walking: a record read term after term, and the breaches that were written.
pub mod Walking
-- Answers: what the calls answer.
pub mod Answers
-- Deciding: the promise determines the answer and the list.
pub mod Deciding
-- Desk: what the call means for those who publish.
pub mod Desk
