-- `address_text::put_decimal` meets its contract. From the laws of Numerals.
use Rattle.address_text.proofs.Laws.Numerals.{decimal_written}
use Rattle.address_text.proofs.put_decimal.Goals as goal

pub returns : goal.returns
returns c = search decimal_written
