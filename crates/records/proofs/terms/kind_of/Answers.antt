-- `records::terms::kind_of` meets its contract. From the laws of Steps.
use Rattle.records.specs.Reader.{kind_of}
use Rattle.records.proofs.Laws.Steps.{steps}
use Rattle.records.proofs.terms.kind_of.Goals as goal

pub returns-then-equal_word : goal.returns-then-equal_word
unfolding kind_of
returns-then-equal_word c = search steps depth 12

pub returns-then-equal_word-2 : goal.returns-then-equal_word-2
unfolding kind_of
returns-then-equal_word-2 c = search steps depth 12

pub returns-then-equal_word-3 : goal.returns-then-equal_word-3
unfolding kind_of
returns-then-equal_word-3 c = search steps depth 12

pub returns-then-equal_word-4 : goal.returns-then-equal_word-4
unfolding kind_of
returns-then-equal_word-4 c = search steps depth 12

pub returns-then-equal_word-5 : goal.returns-then-equal_word-5
unfolding kind_of
returns-then-equal_word-5 c = search steps depth 12

pub returns : goal.returns
unfolding kind_of
returns c = search steps depth 12
