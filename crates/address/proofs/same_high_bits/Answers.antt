-- `same_high_bits` meets its contract: a shift by so many bits divides by that power of 2, which leaves the number of the others.
use Rattle.std.proofs.Common.{rules}
use Rattle.address.specs.Matching.{high_bits}
use Rattle.address.proofs.same_high_bits.Goals as goal

pub returns : goal.returns
unfolding high_bits
returns c = search rules
