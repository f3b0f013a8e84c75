-- `networks::prefixes::read_length` meets its contract. From the laws of Lengths.
use Rattle.networks.proofs.Laws.Lengths.{length_absent, length_present}
use Rattle.networks.proofs.prefixes.read_length.Goals as goal

pub returns-then-s-eq0 : goal.returns-then-s-eq0
returns-then-s-eq0 c = search length_absent

pub returns : goal.returns
returns c = search length_present
