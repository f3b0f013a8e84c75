-- `publishing::offences::put_end` meets its contract. From the laws of Answers.
use Rattle.publishing.proofs.Laws.Answers.{end_wrote}
use Rattle.publishing.proofs.offences.put_end.Goals as goal

pub returns : goal.returns
returns c = search end_wrote
