-- `client_match::any_matches` meets its contract: the items passed have not matched.
use mathlib.Core.Path.{◌≡◌}
use Rattle.answer_table.specs.Reader.{items_of}
use Rattle.rules.specs.Mechanisms.{any_matches}
use Rattle.client_match.proofs.any_matches.Given as goal

abbrev pub invariant-loop-item : goal.invariant-loop-item
invariant-loop-item l = any_matches l.client l.length l.item-iterator ≡ any_matches l.client l.length (items_of l.items)
