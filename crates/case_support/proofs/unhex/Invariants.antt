-- `case_support::unhex` meets its contract. From the laws of Hex.
use Rattle.case_support.proofs.Laws.Hex.{Unhexed}
use Rattle.case_support.proofs.unhex.Given as goal

abbrev pub invariant-loop-i : goal.invariant-loop-i
invariant-loop-i l = Unhexed l.text l.initial.out l.i l.out
