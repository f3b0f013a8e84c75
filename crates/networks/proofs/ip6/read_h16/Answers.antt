-- `networks::ip6::read_h16` meets its contract. From the laws of HexNumbers.
use Rattle.std.proofs.Common.{arith}
use Rattle.networks.proofs.Laws.HexNumbers.{h16_asks, h16_empty, h16_long, h16_value, h16_other}
use Rattle.networks.proofs.ip6.read_h16.Goals.{else-w-ge1-via-then-w-ge1+then-w-le4+else-every, else-w-ge1-via-then-w-ge1+else-w-le4, else-w-ge1-via-else-w-ge1}
use Rattle.networks.proofs.ip6.read_h16.Goals as goal

pub hex_number-requires : goal.hex_number-requires
hex_number-requires c = h16_asks _ (λ e. omega (arith, c.if-w-ge1.true, e)) c.if-w-le4.true _ c.every.ensures c.if-every.true

pub returns-then-every : goal.returns-then-every
returns-then-every c = h16_value _ (λ e. omega (arith, c.if-w-ge1.true, e)) c.if-w-le4.true _ c.every.ensures c.if-every.true _ c.hex_number.ensures

pub returns : goal.returns
returns c = elim c.else-w-ge1.branch [
  | else-w-ge1-via-then-w-ge1+then-w-le4+else-every w ↦ h16_other _ (λ e. omega (arith, w.if-w-ge1.true, e)) w.if-w-le4.true _ w.every.ensures w.if-every.false
  | else-w-ge1-via-then-w-ge1+else-w-le4 w ↦ h16_long _ w.if-w-le4.false
  | else-w-ge1-via-else-w-ge1 w ↦ h16_empty _ (omega (arith, w.if-w-ge1.false))
]
