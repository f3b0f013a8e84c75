-- `records::terms::read_spec` meets its contract. From the laws of Reading, Steps.
use Rattle.records.proofs.Laws.Reading.{spec_from}
use Rattle.records.specs.Reader.{spec_at}
use Rattle.records.proofs.Laws.Steps.{steps}
use Rattle.records.proofs.terms.read_spec.Goals as goal

pub returns-then-k-to : goal.returns-then-k-to
unfolding spec_at
returns-then-k-to c = search steps depth 12

pub returns-then-peek-eq58 : goal.returns-then-peek-eq58
returns-then-peek-eq58 c = search spec_from

pub returns : goal.returns
unfolding spec_at
returns c = search steps depth 12
