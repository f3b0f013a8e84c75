-- `networks::ip6::read_ip6` meets its contract. From the laws of Colons, Ip6.
use Rattle.std.proofs.Common.{arith}
use lib.ListN.{length-take}
use Rattle.networks.proofs.Laws.Colons.{double_inside}
use Rattle.networks.proofs.Laws.Ip6.{ip6_short, ip6_full, ip6_answer}
use Rattle.networks.proofs.ip6.read_ip6.Goals as goal

pub slice_bounds-read_short-end : goal.slice_bounds-read_short-end
slice_bounds-read_short-end c = simp length-take (omega arith)

pub slice_bounds-read_short-count : goal.slice_bounds-read_short-count
slice_bounds-read_short-count c = search double_inside

pub slice_bounds-read_short-start : goal.slice_bounds-read_short-start
slice_bounds-read_short-start c = search double_inside

pub returns-then-k-s : goal.returns-then-k-s
returns-then-k-s c = let v = ip6_answer _ _ (search ip6_short) in record { value = v.0; network_answer = v.1 }

pub returns : goal.returns
returns c = let v = ip6_answer _ _ (search ip6_full) in record { value = v.0; network_answer = v.1 }
