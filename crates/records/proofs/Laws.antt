-- Names: words in either case, the name of a term, and which mechanism it is.
pub mod Names
-- Specs: domain-specs as terms hold them, after a colon or absent.
pub mod Specs
-- Hosts: domain-spec and prefix lengths of `a` and `mx`, and where the lengths begin.
pub mod Hosts
-- Networks: `ip4` and `ip6`, a network and its prefix length.
pub mod Networks
-- Mechanisms: one mechanism after its qualifier.
pub mod Mechanisms
-- Modifiers: `redirect`, `exp` and unknown modifiers.
pub mod Modifiers
-- Tokens: one term: what the reader takes a run of non-spaces for, against the productions.
pub mod Tokens
-- Endings: the ends of the models.
pub mod Endings
-- Beginnings: whatever a term begins with is one once an end of a model is put after it.
pub mod Beginnings
-- Longest: the longest beginning of a run with which some term begins.
pub mod Longest
-- NextRuns: spaces and then a run of non-spaces, from a place on.
pub mod NextRuns
-- Arguments: where a term stands in its record, and the argument of a redirect or an exp.
pub mod Arguments
-- Remaining: the terms that are left after one was read.
pub mod Remaining
-- Terms: reading one term, against the productions.
pub mod Terms
-- Counts: how often a name has stood, against the reader's two flags.
pub mod Counts
-- Walks: terms one after the other, as the productions have them and as the reader finds them.
pub mod Walks
-- Versions: the version section.
pub mod Versions
-- Rests: what the reader answers from a place on is what the productions say.
pub mod Rests
-- Records: reading a record, and term after term, against the productions.
pub mod Records
-- Steps: what the code has read as the answer that a definition goes by.
pub mod Steps
-- Reading: the ways out of the functions that read one term.
pub mod Reading
-- Fronts: the ways out of the function that reads an `ip4`, octets first.
pub mod Fronts
-- Checking: the ways out of the functions on the whole record.
pub mod Checking
-- Pointing: the ways out of the functions that find where 32 points.
pub mod Pointing
-- Standing: where the modifier of a name stands, by a reading of its record.
pub mod Standing
-- Noting: the modifiers met, with one more term.
pub mod Noting
-- Openings: the ways out of the functions that read a record for a client.
pub mod Openings
-- OneOpening: a record has one opening for a client.
pub mod OneOpening
-- Claim: reading a record and then its terms, as one claim.
pub mod Claim
