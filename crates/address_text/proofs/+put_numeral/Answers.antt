-- `address_text::put_numeral` meets its contract. From the laws of Numerals.
use Rattle.std.proofs.Common.{rules}
use Rattle.address_text.proofs.Laws.Numerals.{numeral_end, numeral_then}
use Rattle.address_text.proofs.+put_numeral.Goals as goal

pub returns-then-v-base : goal.returns-then-v-base
returns-then-v-base t c = record { wrote = search numeral_end; same = search rules }

pub returns-else-v-base : goal.returns-else-v-base
returns-else-v-base t c = record { wrote = search numeral_then; same = search rules }
