-- `macros::endings::is_toplabel` meets its contract. From the laws of Labels.
use Rattle.macros.proofs.Laws.Labels.{top_bad_byte, top_digits, top_first, top_last}
use Rattle.macros.proofs.endings.is_toplabel.Goals as goal

pub returns-then-not-every : goal.returns-then-not-every
returns-then-not-every c = search top_bad_byte

pub returns-then-every : goal.returns-then-every
returns-then-every c = search top_digits

pub returns-then-is_in : goal.returns-then-is_in
returns-then-is_in c = search top_last

pub returns-else-is_in : goal.returns-else-is_in
returns-else-is_in c = search top_first
