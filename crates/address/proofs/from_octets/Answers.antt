-- `from_octets` meets its contract. From the laws of AddressOctets.
use Rattle.std.proofs.Common.{arith, ◌∙◌}
use Rattle.address.proofs.Laws.AddressOctets.{from_none, from_array, from_halves}
use Rattle.address.proofs.from_octets.Goals as goal

pub returns-in-Some : goal.returns-in-Some
returns-in-Some c =
    from_array c.args.s.now (λ i. omega (arith, c.type_inv.s i)) c.in-Some.ensures.cases.long _ c.in-Some.ensures.cases.same _ c.from_be_bytes.type_inv c.from_be_bytes.ensures

pub returns-in_err-high : goal.returns-in_err-high
returns-in_err-high c = c.from_residual.ensures ∙ from_none _ c.in_default.ensures.cases (λ e. omega (arith, c.in_err-high.ensures.cases))

pub returns-in_err-low : goal.returns-in_err-low
returns-in_err-low c =
    c.from_residual-in_err-low.ensures ∙ from_none _ c.in_default.ensures.cases (λ e. c.in_err-low.ensures.cases (omega (arith, c.in_ok-high.ensures.cases.2)))

pub returns : goal.returns
returns c =
    let first = c.in_ok-high.ensures.cases in
    let last = c.in_ok-low.ensures.cases in
    from_halves c.args.s.now (λ i. omega (arith, c.type_inv.s i)) _ _ _ first.0 first.1 first.2 last.long last.same _ _ c.from_be_bytes-2.type_inv c.from_be_bytes-3.type_inv
    c.from_be_bytes-2.ensures c.from_be_bytes-3.ensures
