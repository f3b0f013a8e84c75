-- `target_name::choose_name` meets its contract. The loop's invariant: the names that are left, with the choice among those before them and the lifetime after
-- those, come to what all names come to. From the laws of Asking.
use Rattle.std.specs.Iterator.Adapters.{take_source, take_count}
use Rattle.answer_table.specs.Reader.{items_of}
use Rattle.target_name.proofs.Laws.Asking.{Chosen}
use Rattle.target_name.proofs.choose_name.Given as goal

abbrev pub invariant-loop-name : goal.invariant-loop-name
invariant-loop-name l =
    Chosen l.client l.table l.domain (items_of l.names) l.initial.progress l.initial.out l.choice (take_count l.name-iterator) (take_source l.name-iterator) l.progress l.out
