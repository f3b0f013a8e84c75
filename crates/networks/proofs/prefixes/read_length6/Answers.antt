-- `networks::prefixes::read_length6` meets its contract. From the laws of Lengths.
use Rattle.networks.specs.Reader.{read_length6}
use Rattle.networks.proofs.Laws.Lengths.{length6_answer}
use Rattle.networks.proofs.prefixes.read_length6.Goals as goal

pub returns : goal.returns
unfolding read_length6
returns c = let v = length6_answer _ _ c.read_length.ensures in record { value = v.0; length_answer = v.1 }
