-- The paper's cases as a single statement, from the cases of each crate.
use Rattle.address.specs.Examples.{cases as address-cases}
use Rattle.macros.specs.Examples.{cases as macro-cases}
use Rattle.records.specs.Examples.{cases as record-cases}
use Rattle.rules.specs.Examples.{computed}
use Rattle.rules.specs.ScopeCases.{ScopeCases}

pub scope_cases : ScopeCases
scope_cases = record { of_records = record-cases; of_macros = macro-cases; of_addresses = address-cases; of_evaluation = computed.scope }
