-- `networks::ip4::read_dot_octet` meets its contract. From the laws of Spans, Tests.
use Rattle.std.proofs.Common.{arith}
use Rattle.networks.specs.Reader.{dot_octet_at}
use Rattle.text.proofs.Laws.Spans.{byte_inside}
use Rattle.text.proofs.Laws.Tests.{ways}
use Rattle.networks.proofs.ip4.read_dot_octet.Goals as goal

pub overflow_add-at : goal.overflow_add-at
overflow_add-at c = let a = c.args in omega (arith, byte_inside c.peek.result a.s.now a.at 45 c.peek.ensures c.if-peek-eq46.true)

pub returns-then-peek-eq46 : goal.returns-then-peek-eq46
unfolding dot_octet_at
returns-then-peek-eq46 c = search ways

pub returns : goal.returns
unfolding dot_octet_at
returns c = search ways
