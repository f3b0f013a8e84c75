-- `networks::ip6::put_row` meets its contract. The measure is the length of what is left. From the laws of RowWriting.
use lib.ListN.{length}
use Rattle.networks.proofs.ip6.+put_row.Given as goal

abbrev pub decreases-put_row : goal.decreases-put_row
decreases-put_row l = length l.s.now
