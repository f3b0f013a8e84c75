-- `networks::ip4::read_front` meets its contract. From the laws of Readings.
use Rattle.networks.specs.Reader.{front_at}
use Rattle.networks.proofs.Laws.Readings.{steps}
use Rattle.networks.proofs.ip4.read_front.Goals as goal

pub returns-in_err-a : goal.returns-in_err-a
unfolding front_at
returns-in_err-a c = rw c.from_residual.ensures (search (steps, c.in_err-a.was))

pub returns-in_err-b : goal.returns-in_err-b
unfolding front_at
returns-in_err-b c = rw c.from_residual-in_err-b.ensures (search (steps, c.in_ok-a.was, c.in_err-b.was))

pub returns-in_err-c : goal.returns-in_err-c
unfolding front_at
returns-in_err-c c = rw c.from_residual-in_err-c.ensures (search (steps, c.in_ok-a.was, c.in_ok-b.was, c.in_err-c.was))

pub returns-in_err-d : goal.returns-in_err-d
unfolding front_at
returns-in_err-d c = rw c.from_residual-in_err-d.ensures (search (steps, c.in_ok-a.was, c.in_ok-b.was, c.in_ok-c.was, c.in_err-d.was))

pub returns : goal.returns
unfolding front_at
returns c = simp c.value_of.ensures (search (steps, c.in_ok-a.was, c.in_ok-b.was, c.in_ok-c.was, c.in_ok-d.was))
