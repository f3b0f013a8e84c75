-- `records::terms::later_kind` meets its contract. From the laws of Steps.
use Rattle.records.specs.Reader.{later_kind}
use Rattle.records.proofs.Laws.Steps.{steps}
use Rattle.records.proofs.terms.later_kind.Goals as goal

pub returns-then-equal_word : goal.returns-then-equal_word
unfolding later_kind
returns-then-equal_word c = search steps depth 12

pub returns-then-equal_word-2 : goal.returns-then-equal_word-2
unfolding later_kind
returns-then-equal_word-2 c = search steps depth 12

pub returns-then-equal_word-3 : goal.returns-then-equal_word-3
unfolding later_kind
returns-then-equal_word-3 c = search steps depth 12

pub returns : goal.returns
unfolding later_kind
returns c = search steps depth 12
