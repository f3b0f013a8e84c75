-- `records::has_version` meets its contract. From the laws of Checking.
use Rattle.records.proofs.Laws.Checking.{version_alone, version_space, version_other}
use Rattle.records.proofs.has_version.Goals as goal

pub returns-then-s-eq-AFTER_VERSION : goal.returns-then-s-eq-AFTER_VERSION
returns-then-s-eq-AFTER_VERSION c = rw c.if-s-eq-AFTER_VERSION.true (search version_alone)

pub returns-else-s-eq-AFTER_VERSION : goal.returns-else-s-eq-AFTER_VERSION
returns-else-s-eq-AFTER_VERSION c = search version_space

pub returns-else-equal_word : goal.returns-else-equal_word
returns-else-equal_word c = rw c.if-equal_word.false (search version_other)
