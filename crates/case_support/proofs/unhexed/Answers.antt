-- `case_support::unhexed` meets its contract. From the laws of Values.
use Rattle.case_support.proofs.Laws.Values.{front_read}
use Rattle.case_support.proofs.unhexed.Goals as goal

pub returns : goal.returns
returns c = search front_read
