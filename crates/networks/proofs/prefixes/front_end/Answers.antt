-- `networks::prefixes::front_end` meets its contract. From the laws of Lengths.
use Rattle.networks.proofs.Laws.Lengths.{front_digits, front_none}
use Rattle.networks.proofs.prefixes.front_end.Goals as goal

pub returns-then-is_in : goal.returns-then-is_in
returns-then-is_in c = search front_digits

pub returns : goal.returns
returns c = search front_none
