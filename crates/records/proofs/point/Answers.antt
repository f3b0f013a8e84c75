-- `records::point` meets its contract. From the laws of Pointing, one for each way out.
use Rattle.records.proofs.Laws.Pointing.{point_small, point_fits, point_outside, point_other}
use Rattle.records.proofs.point.Goals as goal

pub longest_beginning-requires : goal.longest_beginning-requires
longest_beginning-requires c = search (point_small, c.requires)

pub overflow_add-at : goal.overflow_add-at
overflow_add-at c = search point_fits

pub returns-in-Outside : goal.returns-in-Outside
returns-in-Outside c = search point_outside

pub returns-in_default : goal.returns-in_default
returns-in_default c = search point_other
