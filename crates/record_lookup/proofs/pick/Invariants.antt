-- `pick` meets its contract. The loop's invariant: the answer so far is for the records among the items before the walk's place.
use Rattle.text.specs.Bytes.{part}
use Rattle.record_lookup.proofs.Laws.Picks.{Walking}
use Rattle.record_lookup.proofs.pick.Given as goal

abbrev pub invariant-loop-place : goal.invariant-loop-place
invariant-loop-place l = Walking l.start (part l.table l.start l.end) l.place-iterator l.seen
