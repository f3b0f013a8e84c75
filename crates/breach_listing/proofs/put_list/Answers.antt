-- `breach_listing::put_list` meets its contract. From the laws of Walking.
use Rattle.std.proofs.Common.{sym, ◌∙◌}
use Rattle.breach_listing.proofs.Laws.Walking.{none_listed, some_listed}
use Rattle.breach_listing.proofs.put_list.Goals as goal

pub returns-then-is_empty : goal.returns-then-is_empty
returns-then-is_empty c = none_listed _ _ _ _ (sym c.is_empty.ensures ∙ c.if-is_empty.true) c.put_all.ensures

pub returns-else-is_empty : goal.returns-else-is_empty
returns-else-is_empty c = some_listed _ _ _ _ (sym c.is_empty.ensures ∙ c.if-is_empty.false) c.put_breaches.ensures
