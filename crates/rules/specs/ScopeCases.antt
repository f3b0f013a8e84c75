-- The cases that are to be "proved as a single statement": those about records, macros and addresses, and with them those computed about evaluation.
-- `scope_cases` proves it (proofs/Laws/ScopeCases.antt).
use Rattle.address.specs.Examples.{Cases as AddressCases}
use Rattle.macros.specs.Examples.{Cases as MacroCases}
use Rattle.records.specs.Examples.{Cases as RecordCases}
use Rattle.rules.specs.Examples.{Cases as EvaluationCases}

pub record ScopeCases : Type 0 where
  -- `v=spf1`; `v=spf10 -all`; ip4 /32 and /33; ip6 /128 and /129; `ip4=192.0.2.1`; redirect, exp, redirect
  pub of_records : RecordCases
  -- `%{lr-}`, `%{l1r-}`, `%{d2r}`
  pub of_macros : MacroCases
  -- 192.0.2.129 against 192.0.2.0 at /24 and /25
  pub of_addresses : AddressCases
  -- besides: ten and eleven redirects, two and three void answers, "Errors that look right"
  pub of_evaluation : EvaluationCases
