-- `records::beginnings::begins_term` meets its contract: no end before the place makes a term of the front, which stays in the buffer (Laws.Pointing).
use Rattle.records.proofs.Laws.Pointing.{Trying}
use Rattle.records.proofs.beginnings.begins_term.Given as goal

abbrev pub invariant-loop-from : goal.invariant-loop-from
invariant-loop-from l = Trying l.w l.n l.terms l.end l.room l.from
