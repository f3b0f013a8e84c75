-- `address_text::put_numeral` meets its contract. From the laws of Numerals.
use Rattle.address_text.proofs.+put_numeral.Given as goal

abbrev pub decreases-put_numeral : goal.decreases-put_numeral
decreases-put_numeral l = l.v
