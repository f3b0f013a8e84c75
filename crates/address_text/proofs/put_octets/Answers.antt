-- `address_text::put_octets` meets its contract. From the laws of Rows.
use Rattle.std.proofs.Common.{rules, arith}
use Rattle.address_text.proofs.Laws.Rows.{octets_row}
use Rattle.address_text.proofs.put_octets.Goals as goal

pub returns : goal.returns
returns c = record { wrote = octets_row c.args.s.now (omega arith) (search rules) _ (λ i r l p. search rules) _ _ _ _ c.put_row.ensures.wrote; same = search rules }
