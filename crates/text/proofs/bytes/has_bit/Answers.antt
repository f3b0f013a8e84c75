-- `text::bytes::has_bit` meets its contract.
use Rattle.text.specs.Sets.{has_bit}
use Rattle.text.proofs.Laws.Tests.{ways}
use Rattle.text.proofs.bytes.has_bit.Goals as goal

pub returns-in-0-to-63 : goal.returns-in-0-to-63
unfolding has_bit
returns-in-0-to-63 c = search ways

pub returns-in-64-to-127 : goal.returns-in-64-to-127
unfolding has_bit
returns-in-64-to-127 c = search ways

pub returns-in_default : goal.returns-in_default
unfolding has_bit
returns-in_default c = search ways
