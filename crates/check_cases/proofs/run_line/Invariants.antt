-- `check_cases::run_line` meets its contract.
use Rattle.std.proofs.Common.{◌≤◌, length, ◌≡◌}
use Rattle.check_input.specs.Keeping.{most_kept}
use Rattle.check_cases.proofs.run_line.Given as goal

abbrev pub invariant-loop : goal.invariant-loop
invariant-loop g l = (length l.held ≡ length l.initial.held) × (length l.piece ≡ 4096) × (l.at ≤ most_kept)
