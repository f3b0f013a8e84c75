-- Runs: what a table settles of one check after another.
pub mod Runs
-- Alike: two checks that settle the same, and what holds of that.
pub mod Alike
-- Candidates: the candidates of two lists end to end.
pub mod Candidates
-- Preferences: the order of an mx's hosts.
pub mod Preferences
-- Inversions: what an answer of the code tells of what a table settles.
pub mod Inversions
-- Steps: one term and then the others; the counts after a term, a host of mx or a name of ptr.
pub mod Steps
-- Signs: a mechanism that is read has one of the four signs.
pub mod Signs
-- Reversed: the name of a PTR question is a name as the table has it.
pub mod Reversed
-- Askable: so are the names that an evaluation makes, and those in an accepted table's items.
pub mod Askable
-- Kept: what every check keeps of the counts, the kinds and the names that it asks, and that it settles the same over checks that do.
pub mod Kept
-- Verdicts: lookups never exceed 10, voids never 3, and 2 unless the result is permerror; a fail and nothing else names a record; only a fail has a text,
-- of at most 500 bytes; a question can be asked.
pub mod Verdicts
-- Recounting: an explanation comes to the same from any counts.
pub mod Recounting
-- Enough: the depth bound never decides.
pub mod Enough
-- Lifetimes: a run's lifetime is the smallest of the entries that its questions found.
pub mod Lifetimes
-- Agreement: what a check consults decides it.
pub mod Agreement
-- Growth: a settled result stays when the table gains entries.
pub mod Growth
-- Ignored: SPF entries change no evaluation and no explanation.
pub mod Ignored
-- Produced: the texts that are selected, the terms that are tried and the expansions are those that the productions make.
pub mod Produced
-- Reached: a record outside the grammar is never evaluated.
pub mod Reached
-- Exp: a domain has at most one exp argument in a table; whose it is, and where it stands.
pub mod Exp
-- Listed: no check that has a part in an evaluation is left out of those reached.
pub mod Listed
-- ScopeCases: the paper's cases, proved as a single statement.
pub mod ScopeCases
