-- `networks::ip6::put_h16` meets its contract. From the laws of RowWriting.
use Rattle.networks.proofs.Laws.RowWriting.{pair_written}
use Rattle.networks.proofs.ip6.put_h16.Goals as goal

pub returns : goal.returns
returns c = search pair_written
