-- `publishing::offences::count_after` meets its contract. From the laws of Walking.
use Rattle.publishing.proofs.Laws.Walking.{count_more, count_other, count_full}
use Rattle.publishing.proofs.offences.count_after.Goals.{else-network-via-then-network+else-n-lt-MOST_ROWS, else-network-via-else-network}
use Rattle.publishing.proofs.offences.count_after.Goals as goal

pub returns-then-n-lt-MOST_ROWS : goal.returns-then-n-lt-MOST_ROWS
returns-then-n-lt-MOST_ROWS c = search count_more

pub returns-else-network : goal.returns-else-network
returns-else-network c =
    elim c.else-network.branch [ else-network-via-then-network+else-n-lt-MOST_ROWS w ↦ search count_full | else-network-via-else-network w ↦ search count_other ]
