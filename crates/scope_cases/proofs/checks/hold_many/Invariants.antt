-- `scope_cases::checks::hold_many` meets its contract.
use Rattle.std.proofs.Common.{◌≤◌, length, ◌≡◌}
use Rattle.check_input.specs.Keeping.{most_kept}
use Rattle.scope_cases.proofs.checks.hold_many.Given as goal

abbrev pub invariant-loop : goal.invariant-loop
invariant-loop l = (length l.held ≡ length l.initial.held) × (l.size ≤ most_kept)
