-- `case_support::hex_byte` meets its contract. From the laws of Hex.
use Rattle.case_support.proofs.Laws.Hex.{byte_value}
use Rattle.case_support.proofs.hex_byte.Goals as goal

pub returns : goal.returns
returns c = search byte_value
