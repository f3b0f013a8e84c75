-- `mechanisms::ask` meets its contract. From the rules of Laws.Counted, one for each mechanism.
use Rattle.mechanisms.proofs.Laws.Counted.{by_a, by_mx, by_ptr, by_exists}
use Rattle.mechanisms.proofs.ask.Goals as goal

pub returns-in-A : goal.returns-in-A
returns-in-A c = search by_a

pub returns-in-Mx : goal.returns-in-Mx
returns-in-Mx c = search by_mx

pub returns-in-Ptr : goal.returns-in-Ptr
returns-in-Ptr c = search by_ptr

pub returns-in-Exists : goal.returns-in-Exists
returns-in-Exists c = search by_exists
