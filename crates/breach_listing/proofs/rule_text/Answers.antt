-- `breach_listing::rule_text` meets its contract. From the laws of Breaches.
use Rattle.breach_listing.proofs.Laws.Breaches.{rule_is, last_is}
use Rattle.breach_listing.specs.Lines.{rule_text}
use Rattle.breach_listing.proofs.rule_text.Goals as goal

pub returns-in-1 : goal.returns-in-1
unfolding rule_text
returns-in-1 c = search rule_is

pub returns-in-2 : goal.returns-in-2
unfolding rule_text
returns-in-2 c = search rule_is

pub returns-in-3 : goal.returns-in-3
unfolding rule_text
returns-in-3 c = search rule_is

pub returns-in-4 : goal.returns-in-4
unfolding rule_text
returns-in-4 c = search rule_is

pub returns-in-5 : goal.returns-in-5
unfolding rule_text
returns-in-5 c = search rule_is

pub returns-in-6 : goal.returns-in-6
unfolding rule_text
returns-in-6 c = search rule_is

pub returns-in-7 : goal.returns-in-7
unfolding rule_text
returns-in-7 c = search rule_is

pub returns-in-8 : goal.returns-in-8
unfolding rule_text
returns-in-8 c = search rule_is

pub returns-in-9 : goal.returns-in-9
unfolding rule_text
returns-in-9 c = search rule_is

pub returns-in_default : goal.returns-in_default
returns-in_default c = search last_is
