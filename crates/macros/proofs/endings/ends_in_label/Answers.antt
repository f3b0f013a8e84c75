-- `macros::endings::ends_in_label` meets its contract. From the laws of Labels.
use Rattle.macros.proofs.Laws.Labels.{label_at_end}
use Rattle.macros.proofs.endings.ends_in_label.Goals as goal

pub returns : goal.returns
returns c = search label_at_end
