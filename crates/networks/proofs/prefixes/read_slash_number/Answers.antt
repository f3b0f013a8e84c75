-- `networks::prefixes::read_slash_number` meets its contract. From the laws of Lengths, Tests.
use Rattle.networks.specs.Reader.{slash_number}
use Rattle.text.proofs.Laws.Tests.{ways}
use Rattle.networks.proofs.Laws.Lengths.{slash_none, slash_some, slash_fits}
use Rattle.networks.proofs.prefixes.read_slash_number.Goals as goal

pub returns-in_err-n : goal.returns-in_err-n
returns-in_err-n c = rw c.from_residual.ensures (search (slash_none, c.in_err-n.was))

pub overflow_cast-result : goal.overflow_cast-result
overflow_cast-result c = search (slash_fits, c.in_ok-n.was)

pub returns-then-peek-eq47 : goal.returns-then-peek-eq47
returns-then-peek-eq47 c = search (slash_some, c.in_ok-n.was)

pub returns : goal.returns
unfolding slash_number
returns c = search ways
