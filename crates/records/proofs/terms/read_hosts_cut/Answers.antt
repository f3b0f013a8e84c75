-- `records::terms::read_hosts_cut` meets its contract. From the laws of Reading.
use Rattle.records.proofs.Laws.Reading.{hosts_bad, hosts_from, hosts_no_lengths}
use Rattle.records.proofs.terms.read_hosts_cut.Goals as goal

pub returns-in_err-lengths : goal.returns-in_err-lengths
returns-in_err-lengths c = rw c.from_residual.ensures (search (hosts_no_lengths, c.in_err-lengths.was))

pub returns-in_err-read_spec : goal.returns-in_err-read_spec
returns-in_err-read_spec c = rw c.from_residual-in_err-read_spec.ensures (search (hosts_bad, c.in_ok-lengths.was, c.in_err-read_spec.was))

pub returns : goal.returns
returns c = search (hosts_from, c.in_ok-lengths.was, c.in_ok-read_spec.was)
