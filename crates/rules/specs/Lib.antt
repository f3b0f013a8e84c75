-- The rules of evaluation as definitions.
-- Results: the results by name.
pub mod Results
-- Tree: a check as a tree of questions, and what a table settles of it.
pub mod Tree
-- Trail: the questions that a check asks.
pub mod Trail
-- Lifetimes: how long a decision may be kept.
pub mod Lifetimes
-- Tables: an answer table as what it has for each question.
pub mod Tables
-- Mechanisms: what each mechanism asks and whether it matches.
pub mod Mechanisms
-- Preferences: the order of an mx's hosts.
pub mod Preferences
-- Evaluation: record lookup, terms, include, redirect, and the explanation.
pub mod Evaluation
-- Reached: which checks an evaluation comes to, and when a text is outside the grammar.
pub mod Reached
-- Exp: where the exp argument of a domain's record stands in a table.
pub mod Exp
-- Outcomes: what the code's answers say of what a table settles.
pub mod Outcomes
-- Zones: zones and mails for examples.
pub mod Zones
-- Rules: the sentences on evaluation, an example for each.
pub mod Rules
-- Examples: cases about evaluation and those of Rules, computed.
pub mod Examples
-- ReachedExample: a record outside the grammar, reached by an include and a redirect.
pub mod ReachedExample
-- ScopeCases: the paper's proved cases as a single statement.
pub mod ScopeCases
