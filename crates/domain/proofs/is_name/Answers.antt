-- `domain::is_name` meets its contract. From the laws of Labels.
use Rattle.text.specs.Bytes.{is_visible}
use Rattle.domain.proofs.Laws.Labels.{label_byte, name_long, name_fits}
use Rattle.domain.proofs.is_name.Goals as goal

pub returns-then-s-le-MOST_NAME : goal.returns-then-s-le-MOST_NAME
returns-then-s-le-MOST_NAME c = name_fits _ c.if-s-le-MOST_NAME.true _ (c.labels_fit.ensures is_visible (label_byte c.args.s.now))

pub returns-else-s-le-MOST_NAME : goal.returns-else-s-le-MOST_NAME
returns-else-s-le-MOST_NAME c = search name_long
