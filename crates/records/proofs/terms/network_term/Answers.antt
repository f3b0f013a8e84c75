-- `records::terms::network_term` meets its contract. From the laws of Reading.
use Rattle.records.proofs.Laws.Reading.{no_network, no_length, network_is}
use Rattle.records.proofs.terms.network_term.Goals as goal

pub returns-in_err-address : goal.returns-in_err-address
returns-in_err-address c = rw c.from_residual.ensures (search (no_network, c.in_err-address.was))

pub returns-in_err-length : goal.returns-in_err-length
returns-in_err-length c = rw c.from_residual-in_err-length.ensures (search (no_length, c.in_ok-address.was, c.in_err-length.was))

pub returns : goal.returns
returns c = search (network_is, c.in_ok-address.was, c.in_ok-length.was)
