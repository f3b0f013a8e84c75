-- `publishing::offences::is_long` meets its contract. From the laws of Answers.
use Rattle.publishing.proofs.Laws.Answers.{long_both}
use Rattle.publishing.proofs.offences.is_long.Goals as goal

pub returns : goal.returns
returns c = search long_both
