-- `networks::ip6::hex_number` meets its contract. From the laws of HexNumbers.
use Rattle.std.proofs.Common.{arith}
use Rattle.networks.proofs.Laws.HexNumbers.{hex_start, hex_next, hex_end, hex_fits, hex_sum}
use Rattle.networks.proofs.ip6.hex_number.Goals as goal

pub loop-b-init : goal.loop-b-init
loop-b-init c = search hex_start

pub overflow_mul-v : goal.overflow_mul-v
overflow_mul-v c = let l = c.loop-b in omega (arith, hex_fits _ l.v l.b-index l.invariant c.loop-b-test.true c.requires.0)

pub overflow_add-v : goal.overflow_add-v
overflow_add-v c = let l = c.loop-b in omega (arith, hex_sum _ l.v l.b-index l.invariant c.loop-b-test.true c.requires c.hex_value.result c.hex_value.ensures)

pub loop-b-preserved : goal.loop-b-preserved
loop-b-preserved c = search hex_next

pub returns : goal.returns
returns c = search hex_end
