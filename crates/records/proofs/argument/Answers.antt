-- `records::argument` meets its contract. From the laws of Checking.
use Rattle.records.proofs.Laws.Checking.{argument_by, argument_all, argument_a, argument_mx, argument_ptr, argument_network}
use Rattle.records.specs.Numbers.{said_of}
use Rattle.records.proofs.argument.Goals as goal

pub returns-in-All : goal.returns-in-All
returns-in-All c = search argument_all

pub returns-in-Include : goal.returns-in-Include
unfolding said_of
returns-in-Include c = search argument_by

pub returns-in-A : goal.returns-in-A
returns-in-A c = search argument_a

pub returns-in-Mx : goal.returns-in-Mx
returns-in-Mx c = search argument_mx

pub returns-in-Ptr : goal.returns-in-Ptr
returns-in-Ptr c = search argument_ptr

pub returns-in-Network : goal.returns-in-Network
returns-in-Network c = search argument_network

pub returns-in-Exists : goal.returns-in-Exists
unfolding said_of
returns-in-Exists c = search argument_by

pub returns-in-Redirect : goal.returns-in-Redirect
unfolding said_of
returns-in-Redirect c = search argument_by

pub returns-in-Explanation : goal.returns-in-Explanation
unfolding said_of
returns-in-Explanation c = search argument_by

pub returns-in-Unknown : goal.returns-in-Unknown
unfolding said_of
returns-in-Unknown c = search argument_by
