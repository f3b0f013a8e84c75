-- `networks::prefixes::read_length4` meets its contract. From the laws of Lengths.
use Rattle.networks.specs.Reader.{read_length4}
use Rattle.networks.proofs.Laws.Lengths.{length4_answer}
use Rattle.networks.proofs.prefixes.read_length4.Goals as goal

pub returns : goal.returns
unfolding read_length4
returns c = let v = length4_answer _ _ c.read_length.ensures in record { value = v.0; length_answer = v.1 }
