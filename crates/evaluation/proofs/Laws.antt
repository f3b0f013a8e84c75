-- Beginning: a lookup that is begun, and the check of a domain up to its record.
pub mod Beginning
-- Standing: where the redirect and the exp of a selected record stand.
pub mod Standing
-- Walking: the terms of a record, one after the other.
pub mod Walking
-- Leading: the leading terms of a record that need no lookup.
pub mod Leading
-- Refusing: the tests that both calls begin with.
pub mod Refusing
-- Deciding: the first call: the check of a given domain, its answer, and the refusals before it.
pub mod Deciding
-- Explaining: the second call: a rule for each way out.
pub mod Explaining
-- Together: both calls give what one gave.
pub mod Together
-- Unasked: the first's answer depends only on what its own questions find.
pub mod Unasked
-- Keeping: the first call's lifetime is the smallest of the entries that its questions found.
pub mod Keeping
-- Facts: a wanted name is a name as the table has it, a wanted kind one of five; only a fail has a text; the counts' bounds.
pub mod Facts
-- Demand3: demand 3 as one theorem about the calls.
pub mod Demand3
-- SpfEntries: SPF entries change nothing that the calls give.
pub mod SpfEntries
