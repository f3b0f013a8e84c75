-- `numbers::shape_of` meets its contract. From the laws of Rows.
use Rattle.talavorn.specs.Numbers.{shape_of}
use Rattle.talavorn.proofs.Laws.Rows.{shape_by, name_room}
use Rattle.talavorn.proofs.numbers.shape_of.Goals as goal

pub overflow_add-name : goal.overflow_add-name
overflow_add-name c = record { fits = name_room _ _ _ _ c.in-Unknown.is c.requires c.ranges.size.fits }

pub returns-in-All : goal.returns-in-All
unfolding shape_of
returns-in-All c = search shape_by

pub returns-in-Include : goal.returns-in-Include
unfolding shape_of
returns-in-Include c = search shape_by

pub returns-in-A : goal.returns-in-A
unfolding shape_of
returns-in-A c = search shape_by

pub returns-in-Mx : goal.returns-in-Mx
unfolding shape_of
returns-in-Mx c = search shape_by

pub returns-in-Ptr : goal.returns-in-Ptr
unfolding shape_of
returns-in-Ptr c = search shape_by

pub returns-in-Network : goal.returns-in-Network
unfolding shape_of
returns-in-Network c = search shape_by

pub returns-in-Exists : goal.returns-in-Exists
unfolding shape_of
returns-in-Exists c = search shape_by

pub returns-in-Redirect : goal.returns-in-Redirect
unfolding shape_of
returns-in-Redirect c = search shape_by

pub returns-in-Explanation : goal.returns-in-Explanation
unfolding shape_of
returns-in-Explanation c = search shape_by

pub returns-in-Unknown : goal.returns-in-Unknown
unfolding shape_of
returns-in-Unknown c = search shape_by
