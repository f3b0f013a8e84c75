-- `mechanism_lookups::names::ask_names` meets its contract. From the laws of Loops.
use Rattle.std.proofs.Common.{take}
use Rattle.answer_table.specs.Reader.{items_of}
use Rattle.rules.specs.Mechanisms.{most_names}
use Rattle.mechanism_lookups.proofs.Laws.Loops.{Names}
use Rattle.mechanism_lookups.proofs.names.ask_names.Given as goal

abbrev pub invariant-loop-name : goal.invariant-loop-name
invariant-loop-name l = Names l.table l.client l.target (take most_names (items_of l.items)) l.initial.progress l.initial.out (take l.name-iterator.n l.name-iterator.iter) l.progress l.out
