-- `check_cases::main` meets its contract.
use Rattle.std.proofs.Common.{length, ◌≡◌}
use Rattle.check_cases.proofs.main.Given as goal

abbrev pub invariant-loop : goal.invariant-loop
invariant-loop l = length l.held ≡ 132234
