-- `publishing::list_breaches` meets its contract. From the laws of Answers.
use Rattle.std.proofs.Common.{rules}
use Rattle.publishing.proofs.Laws.Answers.{too_many, all_listed}
use Rattle.publishing.proofs.list_breaches.Goals as goal

pub returns-then-min-size : goal.returns-then-min-size
returns-then-min-size c = too_many _ _ _ _ _ _ c.new-out.ensures.at c.put_found.ensures _ c.min.ensures c.if-min-size.true

pub returns : goal.returns
returns c =
    all_listed _ _ _ _ _ _ c.new-out.ensures.at c.put_found.ensures _ c.min.ensures c.if-min-size.false (search rules) _ (search rules) _ c.put_ordered.ensures
