-- `macros::emit::put_escape` meets its contract.
use Rattle.std.proofs.Common.{arith}
use Rattle.macros.specs.Expansion.{escape_text}
use Rattle.macros.proofs.Laws.Emitting.{other_escape}
use Rattle.macros.proofs.emit.put_escape.Goals as goal

pub returns-in-37 : goal.returns-in-37
unfolding escape_text
returns-in-37 c = rw c.in-37.is c.put.ensures

pub returns-in-95 : goal.returns-in-95
unfolding escape_text
returns-in-95 c = rw c.in-95.is c.put-in-95.ensures

pub returns-in_default : goal.returns-in_default
returns-in_default c = rw (other_escape c.args.b (λ e. omega arith) (λ e. omega arith)) c.put_all.ensures
