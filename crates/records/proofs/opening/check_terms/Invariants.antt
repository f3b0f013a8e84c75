-- `records::opening::check_terms` meets its contract. From the laws of Openings: at each place the answer from there on is the whole's, the terms so far
-- are as the opening says, and their redirect and exp stand where the modifiers say.
use Rattle.records.proofs.Laws.Openings.{Opens}
use Prim.Native.Nat.{◌+◌, ◌-◌}
use lib.ListN.{length}
use Rattle.records.specs.Opening.{modifiers_of}
use Rattle.records.proofs.opening.check_terms.Given as goal

abbrev pub invariant-loop-place : goal.invariant-loop-place
invariant-loop-place l = Opens l.client l.s l.first l.at (modifiers_of l.met) l.opening

abbrev pub decreases-loop-place : goal.decreases-loop-place
decreases-loop-place l = length l.s + 1 - l.at
