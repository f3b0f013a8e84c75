-- `case_support::read_line` meets its contract. From the laws of Reading.
use Rattle.case_support.proofs.Laws.Reading.{Reading}
use Rattle.case_support.proofs.read_line.Given as goal

abbrev pub invariant-loop-i : goal.invariant-loop-i
invariant-loop-i g l = Reading l.initial.line l.line l.byte l.i
