-- `macros::values::sender_domain` meets its contract. From the laws of Senders.
use Rattle.std.proofs.Common.{rules}
use Rattle.macros.proofs.Laws.Senders.{domain_here, domain_whole}
use Rattle.macros.proofs.values.sender_domain.Goals as goal

pub returns-in-Some : goal.returns-in-Some
returns-in-Some c = domain_here _ c.in-Some.i (search rules) (search rules) (search rules)

pub returns-in-None : goal.returns-in-None
returns-in-None c = domain_whole _ (search rules)
