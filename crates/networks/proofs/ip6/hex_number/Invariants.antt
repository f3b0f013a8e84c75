-- `networks::ip6::hex_number` meets its contract. From the laws of HexNumbers.
use Rattle.networks.proofs.Laws.HexNumbers.{HexRead}
use Rattle.networks.proofs.ip6.hex_number.Given as goal

abbrev pub invariant-loop-b : goal.invariant-loop-b
invariant-loop-b l = HexRead l.w l.v l.b-index
