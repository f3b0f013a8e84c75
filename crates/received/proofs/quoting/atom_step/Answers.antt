-- `received::quoting::atom_step` meets its contract.
use borrow.Author.Tests.{ne_eqb}
use Rattle.received.specs.States.{atom_step}
use Rattle.received.proofs.quoting.atom_step.Goals as goal

pub returns-then-is_atext : goal.returns-then-is_atext
unfolding atom_step
returns-then-is_atext c = rw (c.in-Before.is, ← c.is_atext.ensures, c.if-is_atext.true)

pub returns-else-is_atext : goal.returns-else-is_atext
unfolding atom_step
returns-else-is_atext c = rw (c.in-Before.is, ← c.is_atext.ensures, c.if-is_atext.false)

pub returns-then-b-eq46 : goal.returns-then-b-eq46
unfolding atom_step
returns-then-b-eq46 c = rw (c.in-Within.is, c.if-b-eq46.true)

pub returns-then-is_atext-2 : goal.returns-then-is_atext-2
unfolding atom_step
returns-then-is_atext-2 c = rw (c.in-Within.is, ne_eqb c.args.b 46 c.if-b-eq46.false, ← c.is_atext-else-b-eq46.ensures, c.if-is_atext-2.true)

pub returns-else-is_atext-2 : goal.returns-else-is_atext-2
unfolding atom_step
returns-else-is_atext-2 c = rw (c.in-Within.is, ne_eqb c.args.b 46 c.if-b-eq46.false, ← c.is_atext-else-b-eq46.ensures, c.if-is_atext-2.false)

pub returns-in-Failed : goal.returns-in-Failed
unfolding atom_step
returns-in-Failed c = rw c.in-Failed.is
