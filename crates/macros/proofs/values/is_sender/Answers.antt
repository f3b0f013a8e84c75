-- `macros::values::is_sender` meets its contract. From the laws of Senders.
use Rattle.std.proofs.Common.{arith}
use Rattle.macros.proofs.Laws.Senders.{sender_every, sender_outside}
use Rattle.macros.proofs.values.is_sender.Goals as goal

pub returns-in-1-to-320 : goal.returns-in-1-to-320
returns-in-1-to-320 c = sender_every _ (omega arith) (omega arith) _ c.every.ensures

pub returns-in_default : goal.returns-in_default
returns-in_default c = sender_outside _ (λ h. omega arith)

pub returns-in_default-2 : goal.returns-in_default-2
returns-in_default-2 c = sender_outside _ (λ h. omega arith)
