-- `networks::ip6::is_double_colon` meets its contract. From the laws of Colons.
use borrow.Author.Tests.{ne_eqb}
use Rattle.networks.proofs.Laws.Colons.{double_first, double_not}
use Rattle.networks.proofs.ip6.is_double_colon.Goals as goal

pub returns-then-peek-eq58 : goal.returns-then-peek-eq58
returns-then-peek-eq58 c = search double_first

pub returns-else-peek-eq58 : goal.returns-else-peek-eq58
returns-else-peek-eq58 c = rw (ne_eqb _ 58 c.if-peek-eq58.false) (search double_not)
