-- `networks::prefixes::read_second` meets its contract. From the laws of Lengths, Spans, Tests.
use Rattle.std.proofs.Common.{arith}
use Rattle.networks.specs.Reader.{second_length}
use Rattle.text.proofs.Laws.Spans.{byte_inside}
use Rattle.text.proofs.Laws.Tests.{ways}
use Rattle.networks.proofs.Laws.Lengths.{second_some}
use Rattle.networks.proofs.prefixes.read_second.Goals as goal

pub returns-then-at-s : goal.returns-then-at-s
unfolding second_length
returns-then-at-s c = search ways

pub overflow_add-at : goal.overflow_add-at
overflow_add-at c = let a = c.args in omega (arith, byte_inside c.peek.result a.s.now a.at 46 c.peek.ensures c.if-peek-eq47.true)

pub returns-then-peek-eq47 : goal.returns-then-peek-eq47
returns-then-peek-eq47 c = search second_some

pub returns : goal.returns
unfolding second_length
returns c = search ways
