-- `publishing::house_rules` meets its contract. From the laws of Answers.
use Rattle.publishing.proofs.Laws.Answers.{name_refused, record_refused, record_read}
use Rattle.publishing.proofs.house_rules.Goals as goal

pub returns-then-domain-gt-MOST_NAME : goal.returns-then-domain-gt-MOST_NAME
returns-then-domain-gt-MOST_NAME c = search name_refused

pub returns-in_err-first : goal.returns-in_err-first
returns-in_err-first c =
    record_refused _ _ _ c.args.list.now c.if-domain-gt-MOST_NAME.false _ c.read_record.ensures.reads_record _ c.in_err-first.was _ c.from_residual.ensures.1

pub returns : goal.returns
returns c = record_read _ _ _ _ c.if-domain-gt-MOST_NAME.false _ c.read_record.ensures.reads_record _ c.in_ok-first.was _ c.list_breaches.ensures
