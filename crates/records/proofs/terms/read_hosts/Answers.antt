-- `records::terms::read_hosts` meets its contract. From the laws of Reading.
use Rattle.std.proofs.Common.{rules}
use Rattle.records.proofs.Laws.Reading.{hosts_found, hosts_inside, hosts_room}
use Rattle.records.proofs.terms.read_hosts.Goals as goal

pub overflow_add-cut : goal.overflow_add-cut
overflow_add-cut c = search hosts_room

pub read_hosts_cut-requires : goal.read_hosts_cut-requires
read_hosts_cut-requires c = search (rules, hosts_inside)

pub returns : goal.returns
returns c = search hosts_found
