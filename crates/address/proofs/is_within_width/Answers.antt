-- `is_within_width` meets its contract, from the rules of comparing.
use Rattle.address.proofs.Laws.Comparing.{within_whole, within_part}
use Rattle.address.proofs.is_within_width.Goals as goal

pub returns-then-n-eq0 : goal.returns-then-n-eq0
returns-then-n-eq0 c = search within_whole

pub returns : goal.returns
returns c = search within_part
